use Rattle.journal_people.proofs.Tested.{groups_decided}
use Rattle.journal_people.proofs.law.groups_are_tested.Goals as goal

pub returns-clause-sound : goal.returns-clause-sound
returns-clause-sound c names groups = (groups_decided names groups).0

pub returns-clause-whole : goal.returns-clause-whole
returns-clause-whole c names groups = (groups_decided names groups).1
