use Rattle.std.proofs.Common.{map, option_copied, sym, ap, ◌∙◌}
use Rattle.std.specs.Prelude.{[], unwrap_or}
use Rattle.wr_version.proofs.Anywhere.{taken_anywhere}
use Rattle.wr_version.proofs.after.is_taken_anywhere.Goals as goal

pub returns-in-Some : goal.returns-in-Some
returns-in-Some c = c.is_taken_among.ensures
    ∙ taken_anywhere c.args.state.now c.args.n c.args.name.now c.in-Some.folders.now (sym (ap (λ o. map (λ e. e.1) (unwrap_or (option_copied o) [])) c.in-Some.is) ∙ c.folders.ensures)

pub returns-in-None : goal.returns-in-None
returns-in-None c = taken_anywhere c.args.state.now c.args.n c.args.name.now [] (sym (ap (λ o. map (λ e. e.1) (unwrap_or (option_copied o) [])) c.in-None.is) ∙ c.folders.ensures)
