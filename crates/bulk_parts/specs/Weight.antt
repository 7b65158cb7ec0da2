-- The weight of the update of several objects.
use Rattle.std.specs.Prelude.{ℕ, ◌+◌, List, [], ◌∷◌, ◌++◌, map, sum}
use Rattle.std.specs.List.{flat_map}
use Rattle.call_parts.specs.Versions.{maybe}
use Rattle.call_parts.specs.Weight.{bounded, texts_of_given, weight_of_texts}
use Rattle.bulk_parts.specs.declared.writes.BulkUpdate.{BulkUpdate}
use Rattle.bulk_parts.specs.declared.writes.ObjectIdAndChangeToken.{ObjectIdAndChangeToken}

abbrev pub texts_of_object : ObjectIdAndChangeToken → List (List ℕ)
texts_of_object o = o.id ∷ maybe o.token

-- 256 for the object, its texts, and those of the properties
abbrev pub weight_of_object : ℕ → ObjectIdAndChangeToken → ℕ
weight_of_object properties o = 256 + weight_of_texts (texts_of_object o) + properties

-- the properties count once for each object, and once where there is none
abbrev pub weight_of_objects : ℕ → List ObjectIdAndChangeToken → ℕ
weight_of_objects properties [] = properties
weight_of_objects properties (o ∷ os) = sum (map (weight_of_object properties) (o ∷ os))

-- the secondary types count once
abbrev pub weight_of_bulk_update : BulkUpdate → ℕ
weight_of_bulk_update call = bounded
    (64 + weight_of_texts (call.remove_secondary ++ call.add_secondary)
    + weight_of_objects (weight_of_texts (flat_map texts_of_given call.properties)) call.objects)
