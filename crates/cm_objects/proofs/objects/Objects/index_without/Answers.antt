use Rattle.std.proofs.Common.{◌&&◌, not, subst, ap, ◌∙◌}
use Rattle.cm_map.specs.Keyed.{Rises}
use Rattle.cm_objects.specs.Pairs.{has_pair}
use Rattle.cm_objects.specs.Indexed.{keys_at, is_pair_of, is_keyed}
use Rattle.cm_objects.proofs.Indexing.{keyed_without}
use Rattle.cm_objects.proofs.objects.Objects.index_without.Goals as goal

pub returns : goal.returns
returns c pair =
    let n = c.args.n in
    c.in_ok-less.ensures pair
    ∙ (λ i. has_pair pair (c.in_ok-index.ensures i) && not (is_pair_of n (c.in_ok-keys.ensures i) pair))
    ∙ ap (λ b. b && not (is_pair_of n (keys_at c.args.self.now n) pair)) (c.self.invariant pair ∙ ap (λ l. is_keyed l pair) c.self.view_is)
    ∙ keyed_without n pair c.args.self.now (subst (Rises (λ x. x.id.0)) c.self.view_is c.len-rising.ensures.rising)
