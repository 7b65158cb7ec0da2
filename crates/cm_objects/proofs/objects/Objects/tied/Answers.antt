use Rattle.std.proofs.Common.{map, filter, subst, ap, ◌∙◌}
use Rattle.std.specs.List.{list_any}
use Rattle.cmis_spec.specs.Removal.{ends_of, is_id_of}
use Rattle.cm_map.specs.Keyed.{Rises}
use Rattle.cm_objects.specs.declared.index_key.IndexKey.TheVariants as keys
use Rattle.cm_objects.specs.Indexed.{is_keyed}
use Rattle.cm_objects.proofs.Ends.{names_end}
use Rattle.cm_objects.proofs.Indexing.{members_of}
use Rattle.cm_objects.proofs.Rising.{rising_same, rises_by_cmp, rises_filter}
use Rattle.cm_objects.proofs.objects.Objects.tied.Goals as goal

pub returns : goal.returns
returns c =
    let n = c.args.n in
    let ids = c.in_ok-ids.ids in
    rising_same ids (map (λ x. x.id) (filter (λ x. list_any (is_id_of n) (ends_of x)) c.args.self.now)) (rises_by_cmp ids c.in_ok-ids.ensures.rising)
    (rises_filter (λ x. list_any (is_id_of n) (ends_of x)) c.args.self.now (subst (Rises (λ x. x.id.0)) c.self.view_is c.len-rising.ensures.rising))
    (λ m. c.in_ok-ids.ensures.has m ∙ c.self.invariant (keys.End n, m) ∙ ap (λ l. is_keyed l (keys.End n, m)) c.self.view_is ∙ members_of (keys.End n) (λ x. list_any (is_id_of n) (ends_of x)) m (names_end n) c.args.self.now)
