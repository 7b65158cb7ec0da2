-- What scripts ask for, and what is printed of it.
use Rattle.std.specs.Prelude.{ℕ, true, false, List, [], ◌∷◌, codes, unwrap_or}
use Rattle.cm_types.specs.declared.given.Given.{Given}
use Rattle.call_parts.specs.declared.place.Place.{Place}
use Rattle.call_parts.specs.declared.place.Place.TheVariants as places
use Rattle.call_parts.specs.declared.readings.PropertyFilter.TheVariants as filters
use Rattle.call_parts.specs.declared.writes.CreateFolder.{CreateFolder}
use Rattle.include_parts.specs.declared.readings.ShowChildren.{ShowChildren}
use Rattle.include_parts.specs.declared.replies.IncludedMember.{IncludedMember}
use Rattle.cmis_runs.specs.Loads.{nothing_beside}

-- the root: the path without names
abbrev pub root : Place
root = places.Path []

abbrev pub given : List ℕ → List ℕ → Given
given id text = record { id = id; texts = text ∷ []; several = false }

abbrev pub folder_properties : List ℕ → List Given
folder_properties name = given (codes "cmis:name") name ∷ given (codes "cmis:objectTypeId") (codes "cmis:folder") ∷ []

-- a folder with these properties in the root
abbrev pub folder_in_root : List Given → CreateFolder
folder_in_root properties = record { place = root; properties = properties; policies = []; remove = []; add = []; succinct = true }

-- the children of the root with their names, at most 1000
abbrev pub root_children : ShowChildren
root_children = record {
  children = record { place = root; filter = filters.All; max_items = 1000; skip_count = 0; succinct = true };
  order = [];
  segments = true;
  includes = nothing_beside;
}

-- the name of a child
abbrev pub child_name : IncludedMember → List ℕ
child_name member = unwrap_or member.segment []
