use Rattle.std.proofs.Common.{◌||◌, sym, ap, ◌∙◌}
use Rattle.cm_objects.specs.Pairs.{has_pair}
use Rattle.cm_objects.specs.Indexed.{keys_of, is_pair_of, is_keyed}
use Rattle.cm_objects.proofs.Indexing.{keyed_last}
use Rattle.cm_objects.proofs.objects.Objects.with_last.Goals as goal

pub invariant_of-result : goal.invariant_of-result
invariant_of-result c pair =
    c.in_ok-index.ensures pair
    ∙ (λ i. has_pair pair (c.in_ok-old.ensures i) || is_pair_of c.args.member.id (c.in_ok-keys.ensures i) pair)
    ∙ ap (λ b. b || is_pair_of c.args.member.id (keys_of c.args.member) pair) (c.self.invariant pair)
    ∙ sym (keyed_last c.self.inside.table c.args.member pair)
    ∙ ap (λ l. is_keyed l pair) (sym c.in_ok-table.ensures)
