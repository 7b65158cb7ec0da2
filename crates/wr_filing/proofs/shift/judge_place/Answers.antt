use Rattle.std.proofs.Common.{sym, ap, subst, ◌∙◌}
use Rattle.cm_base.specs.Judged.{Fails}
use Rattle.cm_folder.specs.Filings.{refusal_shift}
use Rattle.cm_state.specs.Told.{entries_of}
use Rattle.wr_filing.proofs.Shifted.{place_is}
use Rattle.wr_filing.proofs.shift.judge_place.Goals as goal

pub returns-in-Ok : goal.returns-in-Ok
returns-in-Ok c =
    sym (place_is c.args.state.now c.args.child c.args.source c.args.target c.step-step.ensures.well c.requires.no_root c.requires.filed c.requires.other c.requires.unfiled)
    ∙ (ap (λ q. refusal_shift (entries_of q) c.args.child c.args.source c.args.target) (sym c.parts.ensures) ∙ c.in-Ok.ensures.0)

pub returns-in-Err : goal.returns-in-Err
returns-in-Err c = subst (λ j. Fails c.in-Err.fail j)
    (ap (λ q. refusal_shift (entries_of q) c.args.child c.args.source c.args.target) c.parts.ensures
    ∙ place_is c.args.state.now c.args.child c.args.source c.args.target c.step-step.ensures.well c.requires.no_root c.requires.filed c.requires.other c.requires.unfiled)
    c.in-Err.ensures
