use Rattle.std.proofs.Common.{map, option_copied, refl, sym, ap, ◌∙◌}
use Rattle.std.specs.Prelude.{[], unwrap_or}
use Rattle.cmis_spec.specs.Repository.{entry_of}
use Rattle.cm_state.specs.Looks.{folders_in}
use Rattle.wr_filing.proofs.Folders.{filed_nowhere}
use Rattle.wr_filing.proofs.Removing.{filed_no}
use Rattle.wr_filing.proofs.remove_from_folder.unfiled_by.Goals as goal

pub returns-in_ok-paid-in-None : goal.returns-in_ok-paid-in-None
returns-in_ok-paid-in-None c =
    let r = c.args.state.now in
    let x = c.args.x.now in
    let none = sym (ap (λ o. map (λ e. e.1) (unwrap_or (option_copied o) [])) c.in-None.is) ∙ (c.folders.ensures ∙ ap (folders_in r) c.entry_of.ensures) in
    c.in_ok-paid-in-None.ensures ∙ sym (filed_no r c.args.moment c.args.cost x (filed_nowhere r (entry_of x) [] none refl))
