-- Look-ups in what a caller sees.
use Rattle.std.specs.Prelude.{ℕ, Bool, true, false, ◌&&◌, List, [], ◌∷◌, find, Option, Some, None, unwrap_or, option_map, option_and_then, bytes_eq}
use Rattle.std.specs.List.{list_any}
use Rattle.cm_base.specs.declared.number.Oid.{Oid}
use Rattle.cmis_spec.specs.Repository.{same, root, last_of}
use Rattle.cmis_spec.specs.Access.{oid_named}
use Rattle.cmis_spec.specs.Seen.{Seen, SeenObject}

abbrev pub seen_at : Seen → Oid → Option SeenObject
seen_at s n = find (λ o. same o.object.id n) s.objects

abbrev pub seen_named : Seen → List ℕ → Option SeenObject
seen_named s id = option_and_then (seen_at s) (oid_named id)

-- the name under which an object stands
abbrev pub seen_name : SeenObject → List ℕ
seen_name o = unwrap_or (option_map (λ t. t.name) o.series) (unwrap_or o.object.name [])

abbrev pub seen_stands : SeenObject → Bool
seen_stands o = unwrap_or (option_map (λ t. unwrap_or (option_map (λ v. same v.object o.object.id) (last_of t.versions)) false) o.series) true

abbrev pub seen_child : Oid → SeenObject → Bool
seen_child f o = list_any (λ g. same g f) o.folders && seen_stands o

abbrev pub seen_walk : List (List ℕ) → Seen → SeenObject → Option SeenObject
seen_walk [] s o = Some o
seen_walk (name ∷ names) s o = option_and_then (seen_walk names s) (find (λ c. seen_child o.object.id c && bytes_eq (seen_name c) name) s.objects)

abbrev pub seen_at_path : Seen → List (List ℕ) → Option SeenObject
seen_at_path s names = option_and_then (seen_walk names s) (seen_at s root)

abbrev pub first_of : {A : Type 0} → List A → Option A
first_of [] = None
first_of (x ∷ xs) = Some x

-- the parent of a folder
abbrev pub seen_parent : Seen → Oid → Option Oid
seen_parent s f = option_and_then (λ o. first_of o.folders) (seen_at s f)

abbrev pub seen_name_at : Seen → Oid → List ℕ
seen_name_at s f = unwrap_or (option_map seen_name (seen_at s f)) []
