use Rattle.form_parts.proofs.Both.{reads-split, split-reads}
use Rattle.form_parts.proofs.laws.split_is_read.Goals as goal

pub returns-clause-sound : goal.returns-clause-sound
returns-clause-sound c = reads-split

pub returns-clause-whole : goal.returns-clause-whole
returns-clause-whole c = split-reads
