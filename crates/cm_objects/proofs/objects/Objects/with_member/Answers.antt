use Rattle.std.proofs.Common.{◌==◌, ◌||◌, sym, ap, ◌∙◌, map, filter, not, if◌then◌else◌}
use Rattle.cm_objects.specs.Indexed.{is_pair_of, is_keyed}
use Rattle.cm_objects.proofs.Indexing.{keyed_put}
use Rattle.cm_objects.proofs.objects.Objects.with_member.Goals as goal

pub invariant_of-result : goal.invariant_of-result
invariant_of-result c pair =
    let m = c.args.member in
    c.in_ok-index.ensures pair
    ∙ ap (λ ks. is_keyed (filter (λ x. not (x.id.0 == m.id.0)) c.args.self.now) pair || is_pair_of m.id ks pair) c.in_ok-keys.ensures
    ∙ sym (keyed_put m pair c.args.self.now c.requires.there)
    ∙ ap (λ l. is_keyed (map (λ x. if x.id.0 == m.id.0 then m else x) l) pair) (sym c.self.view_is)
    ∙ ap (λ l. is_keyed l pair) (sym c.in_ok-table.ensures)
