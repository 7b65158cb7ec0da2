-- The folders of an object, and the name that it has in them (CMIS 1.1, section 2.2.3.5).
use Rattle.std.specs.Prelude.{ℕ, Bool, false, if◌then◌else◌, List, [], Option, Some, None, is_some, unwrap_or, option_map}
use Rattle.cm_base.specs.declared.object.Object.{Object}
use Rattle.cmis_spec.specs.Repository.{Repository, type_of, owner_of, entry_of, entry_name}
use Rattle.cmis_spec.specs.Access.{parents_of}

-- objects of x's type may stand in folders
abbrev pub is_fileable : Repository → Object → Bool
is_fileable r x = unwrap_or (option_map (λ t. t.fileable) (type_of r x)) false

-- the folders that the caller reads in which x stands, a document by its series; a working copy stands in none
abbrev pub folders_of : Repository → List ℕ → Object → List Object
folders_of r u x = if is_some (owner_of r x) then [] else parents_of r u (entry_of x)

-- the name that x has in its folders, where it is asked for
abbrev pub segment_of : Repository → Bool → Object → Option (List ℕ)
segment_of r asked x = if asked then Some (entry_name r (entry_of x)) else None
