use Rattle.journal_file.proofs.Standing.{stays}
use Rattle.journal_file.proofs.laws.extent_stays.Goals as goal

pub returns : goal.returns
returns c = stays
