use Rattle.std.proofs.Common.{refl}
use Rattle.journal_people.proofs.Compared.{compared}
use Rattle.journal_people.proofs.law.people_are_compared.Goals as goal

pub returns-clause-alike : goal.returns-clause-alike
returns-clause-alike c kept asked = (compared kept asked).0

pub returns-clause-itself : goal.returns-clause-itself
returns-clause-itself c people = (compared people people).1 refl
