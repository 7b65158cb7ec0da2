use Rattle.std.proofs.Common.{true, find, option_copied, option_map, sym, ap, ◌∙◌}
use Rattle.cm_folder.specs.Filings.{child_named}
use Rattle.cm_folder.proofs.Lookups.{named_in, named_same}
use Rattle.cm_folder.proofs.filing.Filing.child_named.Goals as goal

pub returns-in-Some : goal.returns-in-Some
returns-in-Some c =
    let f = c.args.folder in
    let name = c.args.name.now in
    let s = c.self.inside in
    c.first_child.ensures.value
    ∙ ap (λ l. option_map (λ e. e.1) (find (λ e. true) l)) (named_in s.parts.entries s.parts.by_child s.parts.by_folder s.parts.by_name c.self.invariant.indexed (f.0, name) _ (ap option_copied (sym c.in-Some.is) ∙ c.under.ensures) c.first_child.ensures.sorted)
    ∙ named_same f name s.parts.entries ∙ ap (λ l. child_named l f name) c.self.view_is

pub returns-in-None : goal.returns-in-None
returns-in-None c =
    let f = c.args.folder in
    let name = c.args.name.now in
    let s = c.self.inside in
    ap (λ l. option_map (λ e. e.1) (find (λ e. true) l)) (named_in s.parts.entries s.parts.by_child s.parts.by_folder s.parts.by_name c.self.invariant.indexed (f.0, name) _ (ap option_copied (sym c.in-None.is) ∙ c.under.ensures) tt)
    ∙ named_same f name s.parts.entries ∙ ap (λ l. child_named l f name) c.self.view_is
