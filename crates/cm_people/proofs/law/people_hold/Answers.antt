use Rattle.std.proofs.Common.{refl}
use Rattle.cm_people.proofs.Named.{names_stay}
use Rattle.cm_people.proofs.law.people_hold.Goals as goal

pub returns-clause-users : goal.returns-clause-users
returns-clause-users c moment people = names_stay people.names

pub returns-clause-groups : goal.returns-clause-groups
returns-clause-groups c moment people = refl
