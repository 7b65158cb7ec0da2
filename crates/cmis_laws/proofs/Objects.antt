-- An object that is made and filed nowhere: an item, a policy or a relationship.
use Rattle.std.specs.Prelude.{◌≡◌, ◌≤◌, true, false, List, count_by}
use Rattle.std.proofs.lemmas.Bool.{both_ways}
use Rattle.std.proofs.lemmas.List.Elements.{All-push}
use Rattle.cm_base.specs.declared.number.Oid.{Oid}
use Rattle.cm_base.specs.declared.object.Object.{Object}
use Rattle.cm_base.specs.declared.access.Ace.{Ace}
use Rattle.cm_types.specs.declared.definition.BaseType.TheVariants as bases
use Rattle.cmis_spec.specs.Repository.{Repository, same, root, is_a}
use Rattle.cmis_spec.specs.Changes.{with_object}
use Rattle.cmis_spec.specs.Well.{HasWay, IsWellFormed}
use Rattle.cmis_laws.proofs.Added
use Rattle.cmis_laws.proofs.Added.{IsNewObject}

pub object_keeps : (r : Repository) (x : Object) (aces : List Ace) (policies : List Oid) → IsWellFormed r → IsNewObject r x aces policies → is_a r bases.Folder x ≡ false → IsWellFormed (with_object r x aces policies)
object_keeps r x aces policies w f no_folder = record {
  numbers = Added.numbers_with r x aces policies w f;
  series_numbers = Added.series_numbers_with r x aces policies w f;
  firsts = Added.firsts_with r x aces policies w f;
  renditions = Added.renditions_with r x aces policies w f;
  root = (Added.base_stays r x aces policies w f bases.Folder root w.root.0, w.root.1);
  ways = All-push (λ y. is_a r bases.Folder y ≡ true → HasWay r.filed y.id) r.objects x w.ways (λ e. absurd (both_ways (is_a r bases.Folder x) no_folder e));
  one_parent = All-push (λ y. is_a r bases.Folder y ≡ true → count_by (λ p. same p.child y.id) r.filed ≤ 1) r.objects x w.one_parent (λ e. absurd (both_ways (is_a r bases.Folder x) no_folder e));
  pairs = Added.pairs_with r x aces policies w f;
  names = Added.names_with r x aces policies w f;
  documents = Added.documents_with r x aces policies w f;
  series = Added.series_with r x aces policies w f;
  plain = Added.plain_with r x aces policies w f;
  own_names = Added.own_names_with r x aces policies w f;
  relationships = Added.relationships_with r x aces policies w f;
  policies = Added.policies_with r x aces policies w f;
  access = Added.access_with r x aces policies w f;
  listed = Added.lists_with r x aces policies w f;
  contents = Added.contents_with r x aces policies w f;
  sizes = w.sizes;
  typed = Added.typed_with r x aces policies w f;
  types = w.types;
  defs = w.defs;
  kept = Added.kept_with r x aces policies w f;
  own_values = Added.own_values_with r x aces policies w f;
  groups = w.groups;
  bounds = Added.bounds_with r x aces policies w f;
  tokens = Added.tokens_with r x aces policies w f;
  labels = w.labels;
}
