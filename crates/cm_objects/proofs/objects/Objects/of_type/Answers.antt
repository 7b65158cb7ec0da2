use Rattle.std.proofs.Common.{map, filter, subst, ap, ◌∙◌}
use Rattle.cmis_spec.specs.Repository.{is_of_type}
use Rattle.cm_map.specs.Keyed.{Rises}
use Rattle.cm_objects.specs.declared.index_key.IndexKey.TheVariants as keys
use Rattle.cm_objects.specs.Pairs.{has_pair}
use Rattle.cm_objects.specs.Indexed.{is_keyed}
use Rattle.cm_objects.proofs.Ends.{has_type}
use Rattle.cm_objects.proofs.Indexing.{members_of}
use Rattle.cm_objects.proofs.Rising.{rising_same, rises_by_cmp, rises_filter}
use Rattle.cm_objects.proofs.objects.Objects.of_type.Goals as goal

pub returns : goal.returns
returns c =
    let id = c.args.id.now in
    let ids = c.in_ok-ids.ids in
    rising_same ids (map (λ x. x.id) (filter (is_of_type id) c.args.self.now)) (rises_by_cmp ids c.in_ok-ids.ensures.rising)
    (rises_filter (is_of_type id) c.args.self.now (subst (Rises (λ x. x.id.0)) c.self.view_is c.len-rising.ensures.rising))
    (λ m. c.in_ok-ids.ensures.has m ∙ ap (λ t. has_pair (keys.Kind t, m) c.self.inside.index) c.in_ok-copied.ensures ∙ c.self.invariant (keys.Kind id, m) ∙ ap (λ l. is_keyed l (keys.Kind id, m)) c.self.view_is ∙ members_of (keys.Kind id) (is_of_type id) m (has_type id) c.args.self.now)
