use Rattle.journal_people.proofs.Grown.{administrator_stays, users_stay}
use Rattle.journal_people.proofs.law.nobody_is_lost.Goals as goal

pub returns-clause-administrator : goal.returns-clause-administrator
returns-clause-administrator c = administrator_stays

pub returns-clause-users : goal.returns-clause-users
returns-clause-users c = users_stay
