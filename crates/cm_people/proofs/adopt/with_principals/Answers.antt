use Rattle.std.specs.Arc.{arc_value}
use Rattle.cm_people.proofs.adopt.with_principals.Goals as goal

pub invariant_of-result : goal.invariant_of-result
invariant_of-result c = record { told = c.parts.invariant.told }

pub returns : goal.returns
returns c = λ i. record (c.parts.view_is i) { users = (arc_value c.args.people).users; groups = (arc_value c.args.people).groups }
