use Rattle.std.proofs.Common.{Some, T, inl, refl, sym, ap, subst, ◌∙◌}
use Rattle.core.specs.Ordering.{nat_cmp}
use Rattle.core.specs.Cmp.{nat_cmp_total}
use Rattle.core.specs.FinMap.Entries.{find, is_sorted, is_sorted-put}
use Rattle.place_laws.proofs.Placing.{find-put_at}
use Rattle.cm_link.proofs.Linking.{indexed_changed}
use Rattle.cm_link.proofs.pairs.Pairs.with_pair.Goals as goal

pub returns : goal.returns
returns c =
    let old = c.args.self.now in
    let a = c.args.pair in
    let n = c.args.place in
    let at = c.in_ok-entries.ensures in
    record {
      indexed = indexed_changed old.entries c.in_ok-entries.entries n a (Some a) old.by_object c.in_ok-by_object.by_object old.by_policy c.in_ok-by_policy.by_policy c.requires.indexed (inl (c.requires.free, refl))
          (subst (λ l. T (is_sorted nat_cmp l)) (sym at) (is_sorted-put nat_cmp nat_cmp_total n a old.entries c.requires.indexed.sorted))
          (λ p. ap (find nat_cmp p) at ∙ find-put_at p n a old.entries) c.in_ok-by_object.ensures.found c.in_ok-by_policy.ensures.found;
      entries = at;
    }
