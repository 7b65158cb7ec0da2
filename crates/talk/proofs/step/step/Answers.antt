use Rattle.talk.specs.Served.{wire_of}
use Rattle.talk.proofs.Stepping.{step-source, step-request, step-bad, refuses-kept, continues-kept}
use Rattle.talk.proofs.step.step.Goals as goal

pub returns-in-Ok-Body-clause-steps : goal.returns-in-Ok-Body-clause-steps
returns-in-Ok-Body-clause-steps g c =
    let reads = rw c.in-Ok-Body.field-0-is at c.in-Ok-Body.ensures.reads in
    step-source _ _ _ _ _ _ _ _ _ _ _ _ _ c.answer.ensures.source c.in-Ok-Body.ensures.sink
    (step-request _ _ _ _ _ _ _ _ _ _ _ _ reads c.answer.ensures.answers c.answer.ensures.later)

pub returns-in-Err-Bad-clause-steps : goal.returns-in-Err-Bad-clause-steps
returns-in-Err-Bad-clause-steps g c =
    let reads = rw c.in-Err-Bad.field-0-is at c.in-Err-Bad.ensures.reads in
    step-source _ _ _ _ _ _ _ _ _ _ _ _ _ c.refuse.ensures.source c.in-Err-Bad.ensures.sink
    (step-bad _ _ _ _ _ _ _ _ _ _ _ reads c.refuse.ensures.refuses)

pub returns-in-Ok-Head-clause-failed : goal.returns-in-Ok-Head-clause-failed
returns-in-Ok-Head-clause-failed g c = continues-kept _ _ _ _ _ c.go_on.ensures.goes

pub returns-in-Err-Bad-clause-failed : goal.returns-in-Err-Bad-clause-failed
returns-in-Err-Bad-clause-failed g c =
    refuses-kept (wire_of g.D.Kind.Served.user g.D.Kind.Served.least g.D.Kind.Served.closes) _ _ _ _ _ c.refuse.ensures.refuses
