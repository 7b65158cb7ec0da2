use Rattle.std.proofs.Common.{map, sym, ap, ◌∙◌}
use Rattle.std.specs.Prelude.{[], unwrap_or}
use Rattle.std.specs.List.{list_any}
use Rattle.std.specs.Option.{option_copied}
use Rattle.cmis_spec.specs.Removal.{among}
use Rattle.wr_filing.proofs.Folders.{any_values}
use Rattle.wr_delete_tree.proofs.left.stands_within.Goals as goal

pub returns-in-Some : goal.returns-in-Some
returns-in-Some c = c.any_among.ensures ∙ (any_values (among c.args.tree.now) c.in-Some.folders.now
    ∙ ap (list_any (among c.args.tree.now)) (sym (ap (λ o. map (λ e. e.1) (unwrap_or (option_copied o) [])) c.in-Some.is) ∙ c.folders.ensures))

pub returns-in-None : goal.returns-in-None
returns-in-None c = ap (list_any (among c.args.tree.now)) (sym (ap (λ o. map (λ e. e.1) (unwrap_or (option_copied o) [])) c.in-None.is) ∙ c.folders.ensures)
