use Rattle.std.proofs.Common.{◌≡◌, ◌==◌, ◌||◌, ◌∙◌, not, filter, ap, subst, sym}
use Rattle.cm_map.specs.Keyed.{Rises}
use Rattle.cm_objects.specs.Pairs.{has_pair}
use Rattle.cm_objects.specs.Indexed.{keys_at, is_pair_of, is_keyed}
use Rattle.cm_objects.proofs.Indexing.{keyed_apart}
use Rattle.cm_objects.proofs.Sameness.{keys_eq}
use Rattle.cm_objects.proofs.objects.Objects.index_with.Goals as goal

pub returns-then-eq : goal.returns-then-eq
returns-then-eq c p =
    let n = c.args.n in
    let xs = c.args.self.now in
    let same : c.as_slice.result.now ≡ c.as_slice-2.result.now = keys_eq _ _ (sym c.eq.ensures ∙ c.if-eq.true) in
    let keys : keys_at xs n ≡ c.args.keys.now = sym c.in_ok-old.ensures ∙ sym c.as_slice.ensures ∙ same ∙ c.as_slice-2.ensures in
    ap (has_pair p) c.in_ok-same.ensures ∙ c.self.invariant p ∙ ap (λ l. is_keyed l p) c.self.view_is
    ∙ keyed_apart n p xs (subst (Rises (λ x. x.id.0)) c.self.view_is c.len-rising.ensures.rising)
    ∙ ap (λ ks. is_keyed (filter (λ x. not (x.id.0 == n.0)) xs) p || is_pair_of n ks p) keys
