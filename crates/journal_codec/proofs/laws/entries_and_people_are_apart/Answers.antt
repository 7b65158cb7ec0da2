use Rattle.journal_codec.proofs.Apart.{apart}
use Rattle.journal_codec.proofs.laws.entries_and_people_are_apart.Goals as goal

pub returns : goal.returns
returns c = λ e p bytes h k. apart e p bytes h k
