use Rattle.people_laws.proofs.Replays.{replays_have}
use Rattle.people_laws.proofs.law.repositories_have_their_people.Goals as goal

pub returns : goal.returns
returns c = replays_have
