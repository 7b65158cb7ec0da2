use Rattle.journal_file.proofs.Kept.{stays, kept_at_first}
use Rattle.journal_file.proofs.laws.stays_acknowledged.Goals as goal

pub returns-clause-one_more : goal.returns-clause-one_more
returns-clause-one_more c = stays

pub returns-clause-at_first : goal.returns-clause-at_first
returns-clause-at_first c = kept_at_first
