use Rattle.journal_file.proofs.One.{stands_for_one}
use Rattle.journal_file.proofs.laws.one_reading.Goals as goal

pub returns : goal.returns
returns c = stands_for_one
