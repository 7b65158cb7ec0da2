use Rattle.std.proofs.Common.{map, option_copied, sym, ap, ◌∙◌}
use Rattle.std.specs.Prelude.{[], unwrap_or}
use Rattle.wr_filing.proofs.Folders.{lacks_among}
use Rattle.wr_filing.proofs.remove_from_folder.lacks_anywhere.Goals as goal

pub returns-in-Some : goal.returns-in-Some
returns-in-Some c = c.lacks_among.ensures
    ∙ lacks_among c.args.state.now c.args.user.now c.args.n c.in-Some.folders.now (sym (ap (λ o. map (λ e. e.1) (unwrap_or (option_copied o) [])) c.in-Some.is) ∙ c.folders.ensures)

pub returns-in-None : goal.returns-in-None
returns-in-None c = lacks_among c.args.state.now c.args.user.now c.args.n [] (sym (ap (λ o. map (λ e. e.1) (unwrap_or (option_copied o) [])) c.in-None.is) ∙ c.folders.ensures)
