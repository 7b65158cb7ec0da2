use Rattle.std.proofs.Common.{rules, ◌≡◌, ◌∙◌, ◌++◌, ◌-◌, [], ℕ, Some, None, sym, ap, arith, suc, false, codes, unwrap_or, option_map, string_bytes}
use Rattle.cmis_spec.specs.Repository.{same, root, path_by}
use Rattle.cm_folder.specs.Filings.{folder_of, name_in}
use Rattle.cm_folder.proofs.Lookups.{path_step}
use Rattle.cm_folder.proofs.filing.Filing.+path_by.Goals as goal

pub returns-in_ok-text-in-Some : goal.returns-in_ok-text-in-Some
returns-in_ok-text-in-Some t c =
    let n : ℕ = c.args.levels - 1 in
    let up = folder_of c.args.self.now in
    let name = name_in c.args.self.now in
    let more : suc n ≡ c.args.levels = omega (arith, c.if-levels-eq0.false) in
    let below : same c.args.folder root ≡ false = search rules in
    let parent : up c.args.folder ≡ Some c.in-Some.above = sym c.folder_of.ensures ∙ c.in-Some.is in
    let way : string_bytes c.in_ok-way-in-Some.way ≡ unwrap_or (option_map (path_by n up name) (up c.args.folder)) [] = c.in_ok-way-in-Some.ensures ∙ sym (ap (λ o. unwrap_or (option_map (path_by n up name) o) []) parent) in
    c.in_ok-text-in-Some.ensures
    ∙ (ap (λ w. w ++ codes "/" ++ c.name_of.result.now) way
    ∙ (ap (λ s. unwrap_or (option_map (path_by n up name) (up c.args.folder)) [] ++ codes "/" ++ s) c.name_of.ensures
    ∙ path_step c.args.levels n up name c.args.folder more below))

pub returns-in_ok-text-in-None : goal.returns-in_ok-text-in-None
returns-in_ok-text-in-None t c =
    let n : ℕ = c.args.levels - 1 in
    let up = folder_of c.args.self.now in
    let name = name_in c.args.self.now in
    let more : suc n ≡ c.args.levels = omega (arith, c.if-levels-eq0.false) in
    let below : same c.args.folder root ≡ false = search rules in
    let parent : up c.args.folder ≡ None = sym c.folder_of.ensures ∙ c.in-None.is in
    let way : string_bytes c.new-in-None.result ≡ unwrap_or (option_map (path_by n up name) (up c.args.folder)) [] = c.new-in-None.ensures.bytes ∙ sym (ap (λ o. unwrap_or (option_map (path_by n up name) o) []) parent) in
    c.in_ok-text-in-None.ensures
    ∙ (ap (λ w. w ++ codes "/" ++ c.name_of-in-None.result.now) way
    ∙ (ap (λ s. unwrap_or (option_map (path_by n up name) (up c.args.folder)) [] ++ codes "/" ++ s) c.name_of-in-None.ensures
    ∙ path_step c.args.levels n up name c.args.folder more below))
