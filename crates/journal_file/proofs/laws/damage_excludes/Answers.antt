use Rattle.journal_file.proofs.One.{not_both}
use Rattle.journal_file.proofs.laws.damage_excludes.Goals as goal

pub returns : goal.returns
returns c = not_both
