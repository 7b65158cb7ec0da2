use Rattle.json_text.proofs.Whole.{whole-after_put}
use Rattle.json_text.proofs.Ordered.{ordered-after_put}
use Rattle.json_text.proofs.tree.Fields.put.Goals as goal

pub invariant_of-self : goal.invariant_of-self
invariant_of-self c = record {
  no_float = whole-after_put c.put.result _ _ _ _ c.args.self.now.no_float c.args.value.no_float c.put.ensures.ok c.put.ensures.err;
  ordered = ordered-after_put c.put.result _ _ _ _ c.args.self.now.ordered c.args.value.ordered c.put.ensures.ok c.put.ensures.err;
}
