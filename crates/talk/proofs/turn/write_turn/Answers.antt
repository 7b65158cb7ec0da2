use Rattle.talk.specs.Served.{wire_of}
use Rattle.talk.proofs.Turns.{accepted-turn, refused-turn, ahead-turn, told-one, refused-on, ahead-on, same-on, stays-late, unkept-turn}
use Rattle.talk.proofs.turn.write_turn.Goals as goal

pub returns-in-Ok-clause-turned : goal.returns-in-Ok-clause-turned
returns-in-Ok-clause-turned g c = λ users head last.
    accepted-turn _ users head last _ _ _ _ c.moment-moment.result _ _ _ _ g.met.D.Kind.Served.entry_has_number c.in-Ok.ensures.wrote
    (told-one _ _ _ c.moment-moment.result c.moment-moment.ensures.word c.in-Ok.ensures.words)

pub returns-in-Err-Refused-clause-turned : goal.returns-in-Err-Refused-clause-turned
returns-in-Err-Refused-clause-turned g c = λ users head last.
    let wrote = rw c.in-Err-Refused.field-0-is at c.in-Err-Refused.ensures.wrote in
    refused-turn _ users head last _ _ _ _ c.moment-moment.result _ _ _ _ _ wrote
    (told-one _ _ _ c.moment-moment.result c.moment-moment.ensures.word c.in-Err-Refused.ensures.words)

pub returns-in-Err-Ahead-clause-turned : goal.returns-in-Err-Ahead-clause-turned
returns-in-Err-Ahead-clause-turned g c = λ users head last.
    let wrote = rw c.in-Err-Ahead.field-0-is at c.in-Err-Ahead.ensures.wrote in
    ahead-turn _ users head last _ _ _ _ c.moment-moment.result _ _ _ _ wrote
    (told-one _ _ _ c.moment-moment.result c.moment-moment.ensures.word c.in-Err-Ahead.ensures.words)

pub returns-in-Err-Refused-clause-refusal : goal.returns-in-Err-Refused-clause-refusal
returns-in-Err-Refused-clause-refusal g c =
    let wrote = rw c.in-Err-Refused.field-0-is at c.in-Err-Refused.ensures.wrote in
    stays-late _ _ _ _ _ c.moment-moment.result (refused-on (record { next = g.D.Kind.Machine.next; answer = g.D.Kind.Machine.answer; number = g.D.Kind.Machine.number; call = g.D.Kind.Served.call; wire = wire_of g.D.Kind.Served.user g.D.Kind.Served.least g.D.Kind.Served.closes }) _ _ _ _ _ _ _ _ wrote) c.moment-moment.ensures.word c.in-Err-Refused.ensures.words

pub returns-in-Err-Ahead-clause-refusal : goal.returns-in-Err-Ahead-clause-refusal
returns-in-Err-Ahead-clause-refusal g c =
    let wrote = rw c.in-Err-Ahead.field-0-is at c.in-Err-Ahead.ensures.wrote in
    stays-late _ _ _ _ _ c.moment-moment.result (ahead-on (record { next = g.D.Kind.Machine.next; answer = g.D.Kind.Machine.answer; number = g.D.Kind.Machine.number; call = g.D.Kind.Served.call; wire = wire_of g.D.Kind.Served.user g.D.Kind.Served.least g.D.Kind.Served.closes }) _ _ c.args.least c.args.user.now c.moment-moment.result c.args.call _ wrote) c.moment-moment.ensures.word c.in-Err-Ahead.ensures.words

pub returns-in-Err-Memory-clause-starved : goal.returns-in-Err-Memory-clause-starved
returns-in-Err-Memory-clause-starved g c =
    let wrote = rw c.in-Err-Memory.field-0-is at c.in-Err-Memory.ensures.wrote in
    stays-late _ _ _ _ _ c.moment-moment.result (same-on _ _ wrote) c.moment-moment.ensures.word c.in-Err-Memory.ensures.words

pub returns-in-Err-Refused-clause-settled : goal.returns-in-Err-Refused-clause-settled
returns-in-Err-Refused-clause-settled g c = rw c.in-Err-Refused.field-0-is at c.in-Err-Refused.ensures.settled

pub returns-in-Err-Ahead-clause-settled : goal.returns-in-Err-Ahead-clause-settled
returns-in-Err-Ahead-clause-settled g c = rw c.in-Err-Ahead.field-0-is at c.in-Err-Ahead.ensures.settled

pub returns-in-Err-Fault-clause-unkept : goal.returns-in-Err-Fault-clause-unkept
returns-in-Err-Fault-clause-unkept g c = λ users head last.
    let wrote = rw c.in-Err-Fault.field-0-is at c.in-Err-Fault.ensures.wrote in
    unkept-turn _ users head last _ _ _ _ c.moment-moment.result _ _ _ _ g.met.D.Kind.Served.entry_has_number wrote c.moment-moment.ensures.word c.in-Err-Fault.ensures.words

pub returns-in-Err-Fault-clause-failed : goal.returns-in-Err-Fault-clause-failed
returns-in-Err-Fault-clause-failed g c = rw c.in-Err-Fault.field-0-is at c.in-Err-Fault.ensures.fault
