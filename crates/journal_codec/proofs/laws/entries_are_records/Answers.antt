use Rattle.journal_codec.proofs.Told.{told}
use Rattle.journal_codec.proofs.laws.entries_are_records.Goals as goal

pub returns : goal.returns
returns c = λ e bytes. told e bytes
