use Rattle.std.proofs.Common.{◌≡◌, ◌||◌, ◌∷◌, [], ◌++◌, sym, subst, ◌∙◌}
use Rattle.core.specs.Ordering.{nat_cmp, eq_by_cmp}
use Rattle.core.specs.Cmp.Lexicographic.{slice_cmp}
use Rattle.cm_map.specs.Sets.{has_key}
use Rattle.wr_rules.specs.Firsts.{HasAll}
use Rattle.wr_rules.proofs.Distinct.{has_more}
use Rattle.wr_rules.proofs.firsts.Firsts.with_new.Goals as goal

pub invariant_of-result : goal.invariant_of-result
invariant_of-result c =
    let list : c.push.new.self ≡ c.self.inside.list ++ c.args.text.now ∷ [] = cc (c.in_ok-push.ensures.ok, c.in_ok-copied-2.ensures) in
    subst (λ l. HasAll l c.in_ok-all.all) (sym list)
    (has_more c.self.inside.list c.self.inside.all c.in_ok-all.all c.args.text.now c.self.invariant
    (λ q. c.in_ok-all.ensures.has q ∙ (λ i. eq_by_cmp (slice_cmp nat_cmp) q (c.in_ok-copied.ensures i) || has_key (slice_cmp nat_cmp) q c.self.inside.all)))
