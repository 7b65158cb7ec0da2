use Rattle.cm_people.proofs.Staying.{events_are_seen}
use Rattle.cm_people.proofs.law.events_stay.Goals as goal

pub returns : goal.returns
returns c = events_are_seen
