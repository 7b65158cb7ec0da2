use Rattle.schedule_run.proofs.Going.{going_none, going_more, counts_on, run_over, run_unread, run_starved, run_refused, run_stopped}
use Rattle.schedule_run.proofs.run.run_lines.Goals as goal

pub lines-init : goal.lines-init
lines-init g c = going_none _ _ _ _ _ _ (c.new-reader.ensures.stands _)

pub lines-preserved : goal.lines-preserved
lines-preserved g c =
    let going = c.lines.invariant in
    going_more _ _ going _ _ _ (rw c.in-Ok-Some.field-0-is at (c.in-Ok-Some.ensures going.text going.steps going.stands)) c.in-None.ensures

pub lines-smaller : goal.lines-smaller
lines-smaller g c =
    let going = c.lines.invariant in
    counts_on _ _ going _ (rw c.in-Ok-Some.field-0-is at (c.in-Ok-Some.ensures going.text going.steps going.stands))

pub returns-in-Some : goal.returns-in-Some
returns-in-Some g c =
    let going = c.lines.invariant in
    run_stopped _ _ going _ c.perform.new.core _ _ (rw c.in-Ok-Some.field-0-is at (c.in-Ok-Some.ensures going.text going.steps going.stands)) c.in-Some.ensures

pub returns-in-Ok-None : goal.returns-in-Ok-None
returns-in-Ok-None g c =
    let going = c.lines.invariant in
    run_over _ _ going (rw c.in-Ok-None.field-0-is at (c.in-Ok-None.ensures going.text going.steps going.stands))

pub returns-in-Err-NotValid : goal.returns-in-Err-NotValid
returns-in-Err-NotValid g c =
    let going = c.lines.invariant in
    run_refused _ _ going _ _ _ (rw c.in-Err-NotValid.field-0-is at (c.in-Err-NotValid.ensures going.text going.steps going.stands)) c.refuse.ensures

pub returns-in-Err-ReadFault : goal.returns-in-Err-ReadFault
returns-in-Err-ReadFault g c =
    let going = c.lines.invariant in
    run_unread _ _ going (rw c.in-Err-ReadFault.field-0-is at (c.in-Err-ReadFault.ensures going.text going.steps going.stands))

pub returns-in-Err-Memory : goal.returns-in-Err-Memory
returns-in-Err-Memory g c =
    let going = c.lines.invariant in
    run_starved _ _ going (rw c.in-Err-Memory.field-0-is at (c.in-Err-Memory.ensures going.text going.steps going.stands))
