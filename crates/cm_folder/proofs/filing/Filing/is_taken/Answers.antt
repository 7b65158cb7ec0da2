use Rattle.std.proofs.Common.{not, option_copied, sym, ap, ◌∙◌}
use Rattle.std.specs.List.{list_any}
use Rattle.cmis_spec.specs.Repository.{same}
use Rattle.cm_folder.specs.Filings.{is_name_taken}
use Rattle.cm_folder.proofs.Lookups.{named_in, taken_same}
use Rattle.cm_folder.proofs.filing.Filing.is_taken.Goals as goal

pub returns-in-Some : goal.returns-in-Some
returns-in-Some c =
    let f = c.args.folder in
    let child = c.args.child in
    let name = c.args.name.now in
    let s = c.self.inside in
    c.has_other.ensures.value
    ∙ ap (list_any (λ e. not (same e.1 child))) (named_in s.parts.entries s.parts.by_child s.parts.by_folder s.parts.by_name c.self.invariant.indexed (f.0, name) _ (ap option_copied (sym c.in-Some.is) ∙ c.under.ensures) c.has_other.ensures.sorted)
    ∙ taken_same f child name s.parts.entries ∙ ap (λ l. is_name_taken l f child name) c.self.view_is

pub returns-in-None : goal.returns-in-None
returns-in-None c =
    let f = c.args.folder in
    let child = c.args.child in
    let name = c.args.name.now in
    let s = c.self.inside in
    ap (list_any (λ e. not (same e.1 child))) (named_in s.parts.entries s.parts.by_child s.parts.by_folder s.parts.by_name c.self.invariant.indexed (f.0, name) _ (ap option_copied (sym c.in-None.is) ∙ c.under.ensures) tt)
    ∙ taken_same f child name s.parts.entries ∙ ap (λ l. is_name_taken l f child name) c.self.view_is
