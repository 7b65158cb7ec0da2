use Rattle.journal_file.proofs.Kept.{too_early}
use Rattle.journal_file.proofs.laws.gate_waits.Goals as goal

pub returns : goal.returns
returns c = too_early
