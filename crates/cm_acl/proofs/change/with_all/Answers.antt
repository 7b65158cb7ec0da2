use Rattle.std.proofs.Common.{◌||◌, sym, ◌∙◌}
use Rattle.core.specs.Ordering.{eq_by_cmp}
use Rattle.cm_map.specs.Sets.{has_key, with_key}
use Rattle.cm_acl.specs.Keys.{ace_key, key_order}
use Rattle.cm_acl.proofs.Changing.{fold_step}
use Rattle.cm_acl.proofs.change.with_all.Goals as goal

pub loop-ace-preserved : goal.loop-ace-preserved
loop-ace-preserved c = record {
  keys = c.in_ok-set.ensures.keys ∙ (λ i. with_key key_order (c.loop-ace.invariant.keys i) (c.in_ok-key.ensures i)) ∙ sym (fold_step (with_key key_order) c.args.start ace_key c.args.aces.now c.loop-ace.ace-index c.ace-item.result c.loop-ace-test.true c.ace-item.is);
  has = λ q.
      c.in_ok-set.ensures.has q ∙ (λ i. eq_by_cmp key_order q (c.in_ok-key.ensures i) || c.loop-ace.invariant.has q i)
      ∙ sym (fold_step (λ b k. eq_by_cmp key_order q k || b) (has_key key_order q c.args.start) ace_key c.args.aces.now c.loop-ace.ace-index c.ace-item.result c.loop-ace-test.true c.ace-item.is);
}
