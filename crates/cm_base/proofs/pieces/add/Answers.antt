use Rattle.std.proofs.Common.{◌∙◌, ap, ◌++◌}
use Rattle.cm_base.specs.Whole.{whole}
use Rattle.cm_base.proofs.Wholes.{whole-push}
use Rattle.cm_base.proofs.pieces.add.Goals as goal

pub returns : goal.returns
returns c = ap whole c.in_ok-push.ensures.items ∙ whole-push c.args.list.now.items c.in_ok-copied.field-0 ∙ ap (λ p. whole c.args.list.now.items ++ p) c.in_ok-copied.ensures
