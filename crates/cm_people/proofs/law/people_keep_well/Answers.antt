use Rattle.cm_people.proofs.Keeping.{adopted_keeps}
use Rattle.cm_people.proofs.law.people_keep_well.Goals as goal

pub returns : goal.returns
returns c = adopted_keeps
