-- What a caller may do at an object, and which objects he reads (CMIS 1.1, section 2.1.12; the access model is this project's own).
use Rattle.std.specs.Prelude.{ℕ, zero, suc, nat_lt, nat_le, Bool, true, false, ◌&&◌, ◌||◌, not, if◌then◌else◌, List, [], ◌∷◌, map, filter, fold, find, Option, Some, None, unwrap_or, option_map, option_and_then, bytes_eq, codes}
use Rattle.std.specs.List.{list_any, list_all}
use Rattle.cm_base.specs.declared.number.Oid.{Oid}
use Rattle.cm_base.specs.Decimals.{decimal_u64}
use Rattle.cm_base.specs.declared.object.Object.{Object}
use Rattle.cm_base.specs.declared.access.Ace.{Ace}
use Rattle.cm_base.specs.declared.access.Level.{Level}
use Rattle.cm_base.specs.declared.access.Level.TheVariants as levels
use Rattle.cm_types.specs.declared.definition.BaseType.TheVariants as bases
use Rattle.cm_types.specs.Properties.{value_in, texts_of}
use Rattle.cmis_spec.specs.Repository.{Repository, same, root, levels_up, object_at, owner_of, entry_of, is_a, parent_in, entry_name, is_latest, is_filed, series_of}

-- ---- levels

abbrev pub rank : Level → ℕ
rank levels.None = 0
rank levels.Read = 1
rank levels.Write = 2
rank levels.All = 3

abbrev pub greater : Level → Level → Level
greater a b = if nat_lt (rank a) (rank b) then b else a

-- all includes write, and write includes read
abbrev pub is_at_least : Level → Level → Bool
is_at_least need level = nat_le (rank need) (rank level)

abbrev pub is_administrator : List (List ℕ) → List ℕ → Bool
is_administrator [] u = false
is_administrator (a ∷ others) u = bytes_eq a u

-- the names of the groups that have the caller as a member
abbrev pub groups_of : Repository → List ℕ → List (List ℕ)
groups_of r u = map (λ g. g.name) (filter (λ g. list_any (bytes_eq u) g.members) r.groups)

-- an entry counts for the caller if its principal is he, one of his groups, or anyone
abbrev pub counts_for : List ℕ → List (List ℕ) → Ace → Bool
counts_for u groups a = bytes_eq a.principal u || list_any (bytes_eq a.principal) groups || bytes_eq a.principal (codes "anyone")

-- the greatest permission of the entries that count for the caller
abbrev pub granted : List Ace → List ℕ → List (List ℕ) → Level
granted aces u groups = fold (λ best a. if counts_for u groups a then greater best a.level else best) levels.None aces

-- the list of an object that is no document, or of a series
abbrev pub aces_at : Repository → Oid → List Ace
aces_at r n = unwrap_or (option_map (λ l. l.aces) (find (λ l. same l.at n) r.access)) []

-- by the access list alone; at the root everybody may read
abbrev pub level_by_list : Repository → List ℕ → Oid → Level
level_by_list r u n =
    if is_administrator r.users u then levels.All
    else if same n root then greater levels.Read (granted (aces_at r n) u (groups_of r u))
    else granted (aces_at r n) u (groups_of r u)

-- at a working copy: its owner who reads the series may do anything, and others nothing
abbrev pub level_at : Option (List ℕ) → Bool → Level → List ℕ → Level
level_at None admin list u = list
level_at (Some owner) admin list u =
    if admin then levels.All
    else if bytes_eq owner u && is_at_least levels.Read list then levels.All
    else levels.None

-- the level of the caller at x
abbrev pub level_of_caller : Repository → List ℕ → Object → Level
level_of_caller r u x = level_at (owner_of r x) (is_administrator r.users u) (level_by_list r u (entry_of x)) u

abbrev pub lacks : Repository → List ℕ → Level → Object → Bool
lacks r u need x = not (is_at_least need (level_of_caller r u x))

-- ---- reading

-- read permission at the folder and at each folder above it
abbrev pub reads_up : ℕ → Repository → List ℕ → Oid → Bool
reads_up zero r u f = false
reads_up (suc n) r u f =
    is_at_least levels.Read (level_by_list r u f)
    && (same f root || unwrap_or (option_map (reads_up n r u) (parent_in r.filed f)) false)

-- of what is no relationship: a folder by all folders above it, everything else by its own level
abbrev pub reads_end : Repository → List ℕ → Object → Bool
reads_end r u x =
    if is_a r bases.Folder x then reads_up levels_up r u x.id
    else is_at_least levels.Read (level_of_caller r u x)

-- the number that an id names: a decimal number without a sign or a leading zero
abbrev pub oid_named : List ℕ → Option Oid
oid_named id = option_map (λ n. record { 0 = n }) (decimal_u64 id)

-- the object whose id is this text
abbrev pub object_named : Repository → List ℕ → Option Object
object_named r id = option_and_then (object_at r) (oid_named id)

-- every object that the property names is there and is read
abbrev pub reads_ends : Repository → List ℕ → Object → List ℕ → Bool
reads_ends r u x property = list_all (λ id. unwrap_or (option_map (reads_end r u) (object_named r id)) false) (texts_of (value_in x.values property))

-- the caller reads x: a relationship with both its ends
abbrev pub reads : Repository → List ℕ → Object → Bool
reads r u x =
    if is_a r bases.Relationship x
    then is_at_least levels.Read (level_of_caller r u x) && reads_ends r u x (codes "cmis:sourceId") && reads_ends r u x (codes "cmis:targetId")
    else reads_end r u x

-- ---- what is found by a caller

abbrev pub read_at : Repository → List ℕ → Oid → Option Object
read_at r u n = option_and_then (λ x. if reads r u x then Some x else None) (object_at r n)

-- the object whose id is this text, where the caller reads it
abbrev pub read_named : Repository → List ℕ → List ℕ → Option Object
read_named r u id = option_and_then (λ x. if reads r u x then Some x else None) (object_named r id)

-- x stands in its folders under its name: a folder, an item, or the latest version of a series
abbrev pub stands : Repository → Object → Bool
stands r x = unwrap_or (option_map (λ s. is_latest s x.id) (series_of r x)) true

-- x is a child of the folder, and the caller reads it
abbrev pub is_child : Repository → List ℕ → Oid → Object → Bool
is_child r u f x = is_filed r f (entry_of x) && stands r x && reads r u x

-- the children that the caller reads, in the order of their numbers
abbrev pub children_of : Repository → List ℕ → Oid → List Object
children_of r u f = filter (is_child r u f) r.objects

-- the child of this name
abbrev pub child_named : Repository → List ℕ → Oid → List ℕ → Option Object
child_named r u f name = find (λ x. is_child r u f x && bytes_eq (entry_name r (entry_of x)) name) r.objects

-- the object at the end of a path, each step among what the caller reads
abbrev pub walk : List (List ℕ) → Repository → List ℕ → Object → Option Object
walk [] r u x = Some x
walk (name ∷ names) r u x = option_and_then (walk names r u) (child_named r u x.id name)

abbrev pub at_path : Repository → List ℕ → List (List ℕ) → Option Object
at_path r u names = option_and_then (walk names r u) (read_at r u root)

-- the folders that the caller reads in which the entry is filed, in the order of their numbers
abbrev pub parents_of : Repository → List ℕ → Oid → List Object
parents_of r u n = filter (λ f. is_filed r f.id n && reads r u f) r.objects

-- the applied policies that the caller reads, in the order of their numbers
abbrev pub policies_of : Repository → List ℕ → Oid → List Object
policies_of r u n = filter (λ p. list_any (λ a. same a.policy p.id && same a.object n) r.applied && reads r u p) r.objects
