use Rattle.step_laws.proofs.Seen.{sent_of_seen}
use Rattle.step_laws.proofs.alike.answers_of_seen.Goals as goal

pub returns : goal.returns
returns c r u q w = sent_of_seen r u q (c.answer_of_seen.ensures r u q w)
