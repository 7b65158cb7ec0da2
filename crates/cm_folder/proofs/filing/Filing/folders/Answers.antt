use Rattle.std.proofs.Common.{map, option_copied, sym, ap, ◌∙◌}
use Rattle.cm_folder.specs.Filings.{folders_in}
use Rattle.cm_folder.proofs.Lookups.{folders_of, folders_same}
use Rattle.cm_folder.proofs.filing.Filing.folders.Goals as goal

pub returns-in-Some : goal.returns-in-Some
returns-in-Some c =
    let s = c.self.inside in
    ap (map (λ e. e.1)) (folders_of s.parts.entries s.parts.by_child s.parts.by_folder s.parts.by_name c.self.invariant.indexed c.args.child.0 _ (ap option_copied (sym c.in-Some.is) ∙ c.bucket.ensures) c.len-sorted.ensures.sorted)
    ∙ folders_same c.args.child s.parts.entries ∙ ap (λ l. folders_in l c.args.child) c.self.view_is

pub returns-in-None : goal.returns-in-None
returns-in-None c =
    let s = c.self.inside in
    ap (map (λ e. e.1)) (folders_of s.parts.entries s.parts.by_child s.parts.by_folder s.parts.by_name c.self.invariant.indexed c.args.child.0 _ (ap option_copied (sym c.in-None.is) ∙ c.bucket.ensures) tt)
    ∙ folders_same c.args.child s.parts.entries ∙ ap (λ l. folders_in l c.args.child) c.self.view_is
