-- The base types, and those of retention and holds, are sound: their texts are read as the requests that name them.
use Rattle.std.proofs.Common.{◌≡◌, ℕ, List, Bool, true, refl}
use Rattle.std.proofs.lemmas.List.Elements.{All-from_recursion}
use Rattle.ql_lex.specs.Words.{keyword_of}
use Rattle.cm_types.specs.declared.property.PropertyKind.{PropertyKind}
use Rattle.cm_types.specs.declared.property.Cardinality.{Cardinality}
use Rattle.cm_types.specs.declared.property.Updatability.{Updatability}
use Rattle.cm_types.specs.declared.definition.BaseType.TheVariants as bases
use Rattle.cm_types.specs.BaseTypes.{prop, base_row, retention_type, hold_type}
use Rattle.cm_types.proofs.Sound.{row_is_sound}
use Rattle.type_keys.specs.Words.{is_id, is_query_name}
use Rattle.type_show.specs.ReadBack.{IsSoundProp, IsSoundType}

sound : (id : List ℕ) (kind : PropertyKind) (c : Cardinality) (u : Updatability) (required queryable : Bool) → is_id id ≡ true → is_query_name id ≡ true
    → IsSoundProp (prop id kind c u required queryable)
sound id kind c u required queryable i n = record {
  id = i;
  query_name = n;
  default_fits = refl;
  choices_fit = refl;
  max_length_fits = refl;
  min_value_fits = refl;
  max_value_fits = refl;
  def = row_is_sound id kind c u required queryable;
}

pub secondary_is_sound : IsSoundType (base_row bases.Secondary)
unfolding keyword_of
secondary_is_sound = record { id = refl; query_name = refl; parent = refl; properties = All-from_recursion IsSoundProp (base_row bases.Secondary).properties tt; in_order = refl }

pub item_is_sound : IsSoundType (base_row bases.Item)
unfolding keyword_of
item_is_sound = record { id = refl; query_name = refl; parent = refl; properties = All-from_recursion IsSoundProp (base_row bases.Item).properties (sound _ _ _ _ _ _ refl refl, (sound _ _ _ _ _ _ refl refl, (sound _ _ _ _ _ _ refl refl, (sound _ _ _ _ _ _ refl refl, (sound _ _ _ _ _ _ refl refl, (sound _ _ _ _ _ _ refl refl, (sound _ _ _ _ _ _ refl refl, (sound _ _ _ _ _ _ refl refl, (sound _ _ _ _ _ _ refl refl, (sound _ _ _ _ _ _ refl refl, (sound _ _ _ _ _ _ refl refl, tt))))))))))); in_order = refl }

pub document_is_sound : IsSoundType (base_row bases.Document)
unfolding keyword_of
document_is_sound = record { id = refl; query_name = refl; parent = refl; properties = All-from_recursion IsSoundProp (base_row bases.Document).properties (sound _ _ _ _ _ _ refl refl, (sound _ _ _ _ _ _ refl refl, (sound _ _ _ _ _ _ refl refl, (sound _ _ _ _ _ _ refl refl, (sound _ _ _ _ _ _ refl refl, (sound _ _ _ _ _ _ refl refl, (sound _ _ _ _ _ _ refl refl, (sound _ _ _ _ _ _ refl refl, (sound _ _ _ _ _ _ refl refl, (sound _ _ _ _ _ _ refl refl, (sound _ _ _ _ _ _ refl refl, (sound _ _ _ _ _ _ refl refl, (sound _ _ _ _ _ _ refl refl, (sound _ _ _ _ _ _ refl refl, (sound _ _ _ _ _ _ refl refl, (sound _ _ _ _ _ _ refl refl, (sound _ _ _ _ _ _ refl refl, (sound _ _ _ _ _ _ refl refl, (sound _ _ _ _ _ _ refl refl, (sound _ _ _ _ _ _ refl refl, (sound _ _ _ _ _ _ refl refl, (sound _ _ _ _ _ _ refl refl, (sound _ _ _ _ _ _ refl refl, (sound _ _ _ _ _ _ refl refl, (sound _ _ _ _ _ _ refl refl, (sound _ _ _ _ _ _ refl refl, tt)))))))))))))))))))))))))); in_order = refl }

pub retention_is_sound : IsSoundType retention_type
unfolding keyword_of
retention_is_sound = record { id = refl; query_name = refl; parent = refl; properties = All-from_recursion IsSoundProp retention_type.properties (sound _ _ _ _ _ _ refl refl, (sound _ _ _ _ _ _ refl refl, tt)); in_order = refl }

pub hold_is_sound : IsSoundType hold_type
unfolding keyword_of
hold_is_sound = record { id = refl; query_name = refl; parent = refl; properties = All-from_recursion IsSoundProp hold_type.properties (sound _ _ _ _ _ _ refl refl, tt); in_order = refl }
