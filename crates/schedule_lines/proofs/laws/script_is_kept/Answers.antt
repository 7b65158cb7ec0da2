use Rattle.schedule_lines.proofs.Kept.{kept}
use Rattle.schedule_lines.proofs.laws.script_is_kept.Goals as goal

pub returns : goal.returns
returns c = kept
