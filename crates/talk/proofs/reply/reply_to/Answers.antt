use Rattle.talk.specs.Served.{Kind, wire_of}
use Rattle.talk.proofs.Turns.{if-ok-map, badly-turn, wrongly-turn, badly-within, wrongly-within, not-unkept, starved-so, ok-so, stays-put, unkept-asking}
use Rattle.talk.proofs.reply.reply_to.Goals as goal

pub returns-in-Err-Refused-call_of-clause-turned : goal.returns-in-Err-Refused-call_of-clause-turned
returns-in-Err-Refused-call_of-clause-turned g c =
    let kind : Kind _ _ _ = record { next = g.D.Kind.Machine.next; answer = g.D.Kind.Machine.answer; number = g.D.Kind.Machine.number; call = g.D.Kind.Served.call; wire = wire_of g.D.Kind.Served.user g.D.Kind.Served.least g.D.Kind.Served.closes } in
    let told = rw c.in-Err-Refused-call_of.field-0-is at c.in-Err-Refused-call_of.ensures in
    if-ok-map _ _ c.plain.result
    (λ shown is last. badly-turn kind c.args.users.now c.args.request.now c.head-head.result.now shown last _ _ _ _ c.head-head.ensures c.in-Ok.ensures told is)
    c.plain.ensures.shown

pub returns-in-Err-Refused-clause-turned : goal.returns-in-Err-Refused-clause-turned
returns-in-Err-Refused-clause-turned g c =
    let kind : Kind _ _ _ = record { next = g.D.Kind.Machine.next; answer = g.D.Kind.Machine.answer; number = g.D.Kind.Machine.number; call = g.D.Kind.Served.call; wire = wire_of g.D.Kind.Served.user g.D.Kind.Served.least g.D.Kind.Served.closes } in
    let told = rw c.in-Err-Refused.field-0-is at c.in-Err-Refused.ensures in
    if-ok-map _ _ c.plain-in-Err-Refused.result
    (λ shown is last. wrongly-turn kind c.args.users.now c.args.request.now c.head-head.result.now shown last _ _ _ c.head-head.ensures told is)
    c.plain-in-Err-Refused.ensures.shown

pub returns-in-Err-Refused-call_of-clause-settled : goal.returns-in-Err-Refused-call_of-clause-settled
returns-in-Err-Refused-call_of-clause-settled g c =
    let kind : Kind _ _ _ = record { next = g.D.Kind.Machine.next; answer = g.D.Kind.Machine.answer; number = g.D.Kind.Machine.number; call = g.D.Kind.Served.call; wire = wire_of g.D.Kind.Served.user g.D.Kind.Served.least g.D.Kind.Served.closes } in
    let told = rw c.in-Err-Refused-call_of.field-0-is at c.in-Err-Refused-call_of.ensures in
    ok-so c.plain.result _ (badly-within kind c.args.users.now c.args.request.now c.head-head.result.now _ _ _ _ c.head-head.ensures c.in-Ok.ensures told)

pub returns-in-Err-Refused-clause-settled : goal.returns-in-Err-Refused-clause-settled
returns-in-Err-Refused-clause-settled g c =
    let kind : Kind _ _ _ = record { next = g.D.Kind.Machine.next; answer = g.D.Kind.Machine.answer; number = g.D.Kind.Machine.number; call = g.D.Kind.Served.call; wire = wire_of g.D.Kind.Served.user g.D.Kind.Served.least g.D.Kind.Served.closes } in
    let told = rw c.in-Err-Refused.field-0-is at c.in-Err-Refused.ensures in
    ok-so c.plain-in-Err-Refused.result _ (wrongly-within kind c.args.users.now c.args.request.now c.head-head.result.now _ _ _ c.head-head.ensures told)

pub returns-in-Err-Refused-call_of-clause-starved : goal.returns-in-Err-Refused-call_of-clause-starved
returns-in-Err-Refused-call_of-clause-starved g c = starved-so c.plain.result _ (stays-put _ _)

pub returns-in-Err-Refused-clause-starved : goal.returns-in-Err-Refused-clause-starved
returns-in-Err-Refused-clause-starved g c = starved-so c.plain-in-Err-Refused.result _ (stays-put _ _)

pub returns-in-Err-Refused-call_of-clause-unkept : goal.returns-in-Err-Refused-call_of-clause-unkept
returns-in-Err-Refused-call_of-clause-unkept g c = not-unkept c.plain.result _ c.plain.ensures.memory

pub returns-in-Err-Refused-clause-unkept : goal.returns-in-Err-Refused-clause-unkept
returns-in-Err-Refused-clause-unkept g c = not-unkept c.plain-in-Err-Refused.result _ c.plain-in-Err-Refused.ensures.memory

pub returns-in-Err-Refused-call_of-clause-failed : goal.returns-in-Err-Refused-call_of-clause-failed
returns-in-Err-Refused-call_of-clause-failed g c = not-unkept c.plain.result _ c.plain.ensures.memory

pub returns-in-Err-Refused-clause-failed : goal.returns-in-Err-Refused-clause-failed
returns-in-Err-Refused-clause-failed g c = not-unkept c.plain-in-Err-Refused.result _ c.plain-in-Err-Refused.ensures.memory

pub returns-in-Ok-Write-clause-unkept : goal.returns-in-Ok-Write-clause-unkept
returns-in-Ok-Write-clause-unkept g c =
    let kind : Kind _ _ _ = record { next = g.D.Kind.Machine.next; answer = g.D.Kind.Machine.answer; number = g.D.Kind.Machine.number; call = g.D.Kind.Served.call; wire = wire_of g.D.Kind.Served.user g.D.Kind.Served.least g.D.Kind.Served.closes } in
    let told = rw c.in-Ok-Write.field-0-is at c.in-Ok-Write.ensures in
    let kept = rw c.in-Ok-Write.field-0-is at c.write_reply_of.ensures.unkept in
    unkept-asking kind c.args.users.now c.args.request.now c.head-head.result.now _ c.least_of-least.result _ _ _ _ _ c.write_reply_of.result c.head-head.ensures c.in-Ok.ensures told c.least_of-least.ensures kept
