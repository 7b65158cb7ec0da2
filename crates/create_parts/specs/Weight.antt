-- The weights of the writes that make an item, a policy or a relationship.
use Rattle.std.specs.Prelude.{ℕ, List, [], ◌++◌, Option, unwrap_or, option_map}
use Rattle.std.specs.List.{flat_map}
use Rattle.call_parts.specs.declared.place.Place.{Place}
use Rattle.call_parts.specs.Versions.{weight_with}
use Rattle.call_parts.specs.Weight.{texts_of_ace, texts_of_given, texts_of_place}
use Rattle.create_parts.specs.declared.writes.ObjectRequest.{ObjectRequest}
use Rattle.create_parts.specs.declared.writes.CreateItem.{CreateItem}
use Rattle.create_parts.specs.declared.writes.CreatePolicy.{CreatePolicy}
use Rattle.create_parts.specs.declared.writes.CreateRelationship.{CreateRelationship}

abbrev pub texts_of_request : ObjectRequest → List (List ℕ)
texts_of_request object =
    flat_map texts_of_given object.properties
    ++ object.policies
    ++ flat_map texts_of_ace object.remove
    ++ flat_map texts_of_ace object.add

-- of a call that makes an object, at a place if one is addressed
abbrev pub weight_of_making : Option Place → ObjectRequest → ℕ
weight_of_making place object = weight_with (unwrap_or (option_map texts_of_place place) [] ++ texts_of_request object) 0

abbrev pub weight_of_create_item : CreateItem → ℕ
weight_of_create_item call = weight_of_making call.place call.object

abbrev pub weight_of_create_policy : CreatePolicy → ℕ
weight_of_create_policy call = weight_of_making call.place call.object

abbrev pub weight_of_create_relationship : CreateRelationship → ℕ
weight_of_create_relationship call = weight_of_making call.place call.object
