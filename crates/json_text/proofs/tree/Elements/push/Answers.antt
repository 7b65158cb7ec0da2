use Rattle.json_text.proofs.Whole.{whole-after_push}
use Rattle.json_text.proofs.Ordered.{ordered-after_push}
use Rattle.json_text.proofs.tree.Elements.push.Goals as goal

pub invariant_of-self : goal.invariant_of-self
invariant_of-self c = record {
  no_float = whole-after_push c.push.result _ _ _ c.args.self.now.no_float c.args.value.no_float c.push.ensures.ok c.push.ensures.err;
  ordered = ordered-after_push c.push.result _ _ _ c.args.self.now.ordered c.args.value.ordered c.push.ensures.ok c.push.ensures.err;
}
