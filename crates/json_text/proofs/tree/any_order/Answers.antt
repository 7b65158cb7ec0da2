use Rattle.json_text.proofs.Ordered.{put-either}
use Rattle.json_text.proofs.tree.any_order.Goals as goal

pub returns : goal.returns
returns c = put-either
