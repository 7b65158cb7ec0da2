-- A repository that is well formed: a record of named facts, each about the lists that it names (CMIS 1.1, section 2.1).
use Rattle.std.specs.Prelude.{if◌then◌else◌, ◌≡◌, ℕ, zero, suc, ◌+◌, ◌<◌, ◌≤◌, Bool, true, false, ◌&&◌, ◌||◌, not, ◌⊎◌, List, [], ◌∷◌, ◌++◌, map, length, All, count_by, bytes_eq, codes, Option, Some, None, IfSome, is_some, is_none, option_map, unwrap_or}
use Rattle.std.specs.List.{list_any}
use Rattle.core.specs.Ordering.{nat_cmp, ordering_then}
use Rattle.core.specs.Cmp.Lexicographic.{slice_cmp}
use Rattle.core.specs.declared.cmp.Ordering.TheVariants.{Less}
use Rattle.cm_base.specs.declared.number.Oid.{Oid}
use Rattle.cm_base.specs.declared.object.Object.{Object}
use Rattle.cm_base.specs.declared.access.Ace.{Ace}
use Rattle.cm_base.specs.declared.access.AccessList.{AccessList}
use Rattle.cm_base.specs.declared.filing.Filed.{Filed}
use Rattle.cm_base.specs.declared.series.Series.{Series}
use Rattle.cm_base.specs.declared.series.Label.{Label}
use Rattle.cm_base.specs.declared.content.Rendition.{Rendition}
use Rattle.cm_base.specs.declared.user.Group.{Group}
use Rattle.cm_base.specs.declared.value.Slot.{Slot}
use Rattle.cm_base.specs.declared.value.Value.{Value}
use Rattle.cm_base.specs.declared.value.Value.TheVariants.{Unset}
use Rattle.cm_base.specs.Limits.{greatest_limit, AreLimits}
use Rattle.cm_base.specs.UserLists.{is_reserved_name, is_user_name, all_differ}
use Rattle.cm_types.specs.declared.definition.TypeDef.{TypeDef}
use Rattle.cm_types.specs.declared.definition.BaseType.{BaseType}
use Rattle.cm_types.specs.declared.definition.BaseType.TheVariants as bases
use Rattle.cm_types.specs.declared.property.PropDef.{PropDef}
use Rattle.cm_types.specs.Types.{type_in, is_of_base, is_below, props_of, chain, longest_chain}
use Rattle.cm_types.specs.Changes.{base_id}
use Rattle.cm_types.specs.BaseTypes.{base_types}
use Rattle.cm_types.specs.Properties.{value_in, texts_of, is_faulty, def_of}
use Rattle.cm_types.specs.Sound.{IsSoundDef}
use Rattle.cmis_spec.specs.Repository.{Repository, same, root, most_levels, longest_stream, object_at, series_at, is_a, type_of, entry_of, entry_name, parent_in, last_of}
use Rattle.cmis_spec.specs.Access.{object_named, rank}
use Rattle.cmis_spec.specs.Values.{words, texts, form_value}

-- each of the list stands so to each after it
abbrev pub Apart : {A : Type 0} → (A → A → Type 0) → List A → Type 0
Apart R [] = Unit {0}
Apart R (x ∷ xs) = All (R x) xs × Apart R xs

-- ---- what is there

abbrev pub IsThere : Repository → Oid → Type 0
IsThere r n = (x : Object) × (object_at r n ≡ Some x)

abbrev pub IsBaseAt : Repository → BaseType → Oid → Type 0
IsBaseAt r base n = (x : Object) × (object_at r n ≡ Some x) × (is_a r base x ≡ true)

abbrev pub IsSeriesAt : Repository → Oid → Type 0
IsSeriesAt r n = (s : Series) × (series_at r n ≡ Some s)

-- what may be filed: a folder, an item or a series
abbrev pub IsEntryAt : Repository → Oid → Type 0
IsEntryAt r n = IsBaseAt r bases.Folder n ⊎ (IsBaseAt r bases.Item n ⊎ IsSeriesAt r n)

-- ---- numbers

-- the objects stand in the order of their numbers, which are below the next one
abbrev pub HasNumbers : Repository → Type 0
HasNumbers r = Apart (λ x y. x.id.0 < y.id.0) r.objects × All (λ x. x.id.0 < r.next) r.objects

abbrev pub HasSeriesNumbers : Repository → Type 0
HasSeriesNumbers r = Apart (λ s t. s.id.0 < t.id.0) r.series × All (λ s. s.id.0 < r.next) r.series

-- a series has the number of the object with which it began: where that is still there, it is one of the series
abbrev pub HasFirsts : Repository → Type 0
HasFirsts r = All (λ s. IfSome (object_at r s.id) (λ x. x.series ≡ Some s.id)) r.series

-- renditions have numbers of their own, and their objects exist
abbrev pub IsRendition : Repository → Rendition → Type 0
IsRendition r d = (d.id.0 < r.next) × (object_at r d.id ≡ None) × IsThere r d.of

abbrev pub HasRenditions : Repository → Type 0
HasRenditions r = Apart (λ c d. c.id.0 < d.id.0) r.renditions × All (IsRendition r) r.renditions

-- ---- the tree

-- k pairs lead from a folder up to the root
abbrev pub Climbs : ℕ → List Filed → Oid → Type 0
Climbs zero filed f = f ≡ root
Climbs (suc k) filed f = (g : Oid) × (parent_in filed f ≡ Some g) × Climbs k filed g

abbrev pub HasWay : List Filed → Oid → Type 0
HasWay filed f = (k : ℕ) × (k ≤ most_levels) × Climbs k filed f

-- the root is a folder and is filed nowhere
abbrev pub HasRoot : Repository → Type 0
HasRoot r = IsBaseAt r bases.Folder root × (parent_in r.filed root ≡ None)

-- each folder leads up to the root in at most 48 pairs
abbrev pub HasWays : Repository → Type 0
HasWays r = All (λ x. is_a r bases.Folder x ≡ true → HasWay r.filed x.id) r.objects

-- and stands in one pair at most
abbrev pub HasOneParent : Repository → Type 0
HasOneParent r = All (λ x. is_a r bases.Folder x ≡ true → count_by (λ p. same p.child x.id) r.filed ≤ 1) r.objects

-- ---- filing

-- a pair's folder is a folder, and its child may be filed
abbrev pub IsPair : Repository → Filed → Type 0
IsPair r p = IsBaseAt r bases.Folder p.folder × IsEntryAt r p.child

abbrev pub HasPairs : Repository → Type 0
HasPairs r = All (IsPair r) r.filed

-- children of one folder have different names; so a pair does not occur twice
abbrev pub Differ : Repository → Filed → Filed → Type 0
Differ r p q = p.folder ≡ q.folder → bytes_eq (entry_name r p.child) (entry_name r q.child) ≡ false

abbrev pub HasNames : Repository → Type 0
HasNames r = Apart (Differ r) r.filed

-- ---- documents

abbrev pub copy_in : Series → List Oid
copy_in s = unwrap_or (option_map (λ w. w.copy ∷ []) s.working) []

-- the versions of a series and its working copy
abbrev pub members : Series → List Oid
members s = map (λ v. v.object) s.versions ++ copy_in s

-- a document is in its series, and nothing else is in one
abbrev pub Belongs : Repository → Object → Option Oid → Type 0
Belongs r x None = is_a r bases.Document x ≡ false
Belongs r x (Some n) = (is_a r bases.Document x ≡ true) × ((s : Series) × (series_at r n ≡ Some s) × (list_any (same x.id) (members s) ≡ true))

abbrev pub HasDocuments : Repository → Type 0
HasDocuments r = All (λ x. Belongs r x x.series) r.objects

abbrev pub IsMember : Repository → Series → Oid → Type 0
IsMember r s n = (x : Object) × (object_at r n ≡ Some x) × (x.series ≡ Some s.id)

-- without a version there is a working copy
abbrev pub HasSome : Series → Type 0
HasSome s = list_any (λ n. true) (members s) ≡ true

abbrev pub HasSeries : Repository → Type 0
HasSeries r = All (λ s. All (IsMember r s) (members s) × Apart (λ m n. same m n ≡ false) (members s) × HasSome s) r.series

-- a document of a type that isn't versionable is the one version of its series, which has no working copy
abbrev pub is_plain : Repository → Object → Bool
is_plain r x = is_a r bases.Document x && not (unwrap_or (option_map (λ t. t.versionable) (type_of r x)) false)

abbrev pub IsAlone : Series → Oid → Type 0
IsAlone s n = (length s.versions ≡ 1) × (s.working ≡ None)

abbrev pub HasPlain : Repository → Type 0
HasPlain r = All (λ x. is_plain r x ≡ true → IfSome x.series (λ n. IfSome (series_at r n) (λ s. IsAlone s x.id))) r.objects

-- an object has a name of its own exactly where it is no version
abbrev pub is_version : Repository → Object → Bool
is_version r x = unwrap_or (option_map (λ n. unwrap_or (option_map (λ s. list_any (λ v. same v.object x.id) s.versions) (series_at r n)) false) x.series) false

abbrev pub HasOwnNames : Repository → Type 0
HasOwnNames r = All (λ x. is_some x.name ≡ not (is_version r x)) r.objects

-- ---- relationships and policies

-- the text is the id of an object that is no relationship
abbrev pub IsEnd : Repository → List ℕ → Type 0
IsEnd r id = (x : Object) × (object_named r id ≡ Some x) × (is_a r bases.Relationship x ≡ false)

abbrev pub HasEnds : Repository → Object → Type 0
HasEnds r x = All (IsEnd r) (texts_of (value_in x.values (codes "cmis:sourceId")) ++ texts_of (value_in x.values (codes "cmis:targetId")))

abbrev pub HasRelationships : Repository → Type 0
HasRelationships r = All (λ x. is_a r bases.Relationship x ≡ true → HasEnds r x) r.objects

abbrev pub HasPolicies : Repository → Type 0
HasPolicies r = All (λ p. IsBaseAt r bases.Policy p.policy × IsThere r p.object) r.applied

-- ---- access lists and contents

-- by the principals' bytes, then by permission
abbrev pub ComesBefore : Ace → Ace → Type 0
ComesBefore a b = ordering_then (slice_cmp nat_cmp a.principal b.principal) (nat_cmp (rank a.level) (rank b.level)) ≡ Less

-- a list is kept in this order, each entry once, and no entry permits nothing
abbrev pub IsAceList : List Ace → Type 0
IsAceList aces = Apart ComesBefore aces × All (λ a. 1 ≤ rank a.level) aces

-- an object that is no document
abbrev pub IsAloneAt : Repository → Oid → Type 0
IsAloneAt r n = (x : Object) × (object_at r n ≡ Some x) × (is_a r bases.Document x ≡ false)

-- a list is of such an object, or of a series
abbrev pub IsAccess : Repository → AccessList → Type 0
IsAccess r l = (IsAloneAt r l.at ⊎ IsSeriesAt r l.at) × IsAceList l.aces

abbrev pub HasAccess : Repository → Type 0
HasAccess r = Apart (λ k l. k.at.0 < l.at.0) r.access × All (IsAccess r) r.access

abbrev pub is_listed : List AccessList → Oid → Bool
is_listed access n = list_any (λ l. same l.at n) access

-- and each has one: each object by itself, a document by its series
abbrev pub HasLists : Repository → Type 0
HasLists r = All (λ x. is_listed r.access (entry_of x) ≡ true) r.objects

-- contents are of documents
abbrev pub HasContents : Repository → Type 0
HasContents r = Apart (λ c d. c.of.0 < d.of.0) r.contents × All (λ c. IsBaseAt r bases.Document c.of × (c.step ≤ r.step)) r.contents

-- and have no more bytes than this
abbrev pub HasSizes : Repository → Type 0
HasSizes r = All (λ c. length c.stream.pieces ≤ longest_stream) r.contents

-- ---- types and values

-- the type is there, and each secondary type is below the base type of such types
abbrev pub IsTyped : List TypeDef → Object → Type 0
IsTyped types x = (is_some (type_in types x.kind) ≡ true) × All (λ s. is_below types s (codes "cmis:secondary") ≡ true) x.secondary

abbrev pub HasTyped : Repository → Type 0
HasTyped r = All (IsTyped r.types) r.objects

-- the last of a chain of at most so many types has no parent
abbrev pub ends_at_base : ℕ → List TypeDef → List ℕ → Bool
ends_at_base zero types id = false
ends_at_base (suc n) types id = unwrap_or (option_map (λ t. unwrap_or (option_map (ends_at_base n types) t.parent) true) (type_in types id)) false

-- each base type is there as its row says
unfoldable pub HasBases : List TypeDef → Type 0
HasBases types = All (λ b. type_in types b.id ≡ Some b) base_types

-- the last of its chain is the base type of its base
abbrev pub IsRooted : List TypeDef → TypeDef → Type 0
IsRooted types t = option_map (λ b. b.id) (last_of (chain types t.id)) ≡ Some (base_id t.base)

-- the types define a property of one id
abbrev pub define_one : TypeDef → TypeDef → Bool
define_one s t = list_any (λ d. list_any (λ e. bytes_eq d.id e.id) t.properties) s.properties

-- a property is defined by one type, or by several base types
abbrev pub define_apart : TypeDef → TypeDef → Bool
define_apart s t = bytes_eq s.id t.id || (is_none s.parent && is_none t.parent) || not (define_one s t)

-- type ids and query names are unique, and each chain ends at a base type; types and their properties stand in byte order
abbrev pub HasTypes : List TypeDef → Type 0
HasTypes types =
    Apart (λ s t. bytes_eq s.id t.id ≡ false) types
    × Apart (λ s t. bytes_eq s.query_name t.query_name ≡ false) types
    × All (λ t. ends_at_base longest_chain types t.id ≡ true) types
    × HasBases types
    × All (IsRooted types) types
    × Apart (λ s t. slice_cmp nat_cmp s.id t.id ≡ Less) types
    × All (λ t. Apart (λ d e. slice_cmp nat_cmp d.id e.id ≡ Less) t.properties) types
    × All (λ s. All (λ t. define_apart s t ≡ true) types) types

-- no other property has this one's id or query name
abbrev pub Agrees : PropDef → List PropDef → Type 0
Agrees d defs = All (λ e. (bytes_eq d.id e.id || bytes_eq d.query_name e.query_name) ≡ true → d ≡ e) defs

-- every text is a value of the properties that are kept beside the others; the comment of a check-in is any text or none
abbrev pub TakesTexts : PropDef → Type 0
TakesTexts d =
    ((bytes_eq d.id (codes "cmis:name") || bytes_eq d.id (codes "cmis:objectTypeId")) ≡ true → (t : List ℕ) → is_faulty d (words t) ≡ false)
    × (bytes_eq d.id (codes "cmis:secondaryObjectTypeIds") ≡ true → (ts : List (List ℕ)) → is_faulty d (texts ts) ≡ false)
    × (bytes_eq d.id (codes "cmis:checkinComment") ≡ true → (is_faulty d Unset ≡ false) × ((t : List ℕ) → is_faulty d (words t) ≡ false))

-- and it is sound
abbrev pub IsDef : List TypeDef → PropDef → Type 0
IsDef types d = All (λ t. Agrees d t.properties) types × IsSoundDef d × TakesTexts d

abbrev pub HasDefs : List TypeDef → Type 0
HasDefs types = All (λ t. All (IsDef types) t.properties) types

-- no value that a form or a default may give has a fault, or is missing
abbrev pub IsKept : Repository → List PropDef → Object → Type 0
IsKept r defs x = All (λ d. is_faulty d (form_value r x d.id) ≡ false) defs

abbrev pub HasKept : Repository → Type 0
HasKept r = All (λ x. IsKept r (props_of r.types x.kind x.secondary) x) r.objects

-- an object keeps values of its own properties alone, each once
abbrev pub IsOwn : List TypeDef → Object → Slot → Type 0
IsOwn types x s = is_some (def_of (props_of types x.kind x.secondary) s.id) ≡ true

abbrev pub OwnsValues : List TypeDef → Object → Type 0
OwnsValues types x = All (IsOwn types x) x.values × Apart (λ s t. bytes_eq s.id t.id ≡ false) x.values

abbrev pub HasOwnValues : Repository → Type 0
HasOwnValues r = All (OwnsValues r.types) r.objects

-- ---- groups of users

abbrev pub is_user : List (List ℕ) → List ℕ → Bool
is_user users name = list_any (bytes_eq name) users

-- a group's name is formed like a user's and is none; its members are users, each once, and at least one
abbrev pub IsGroup : List (List ℕ) → Group → Type 0
IsGroup users g =
    (is_user_name g.name && not (is_user users g.name) ≡ true)
    × All (λ m. not (is_reserved_name m) && is_user users m ≡ true) g.members
    × (all_differ g.members ≡ true)
    × (list_any (λ m. true) g.members ≡ true)

-- groups stand in byte order of their names
abbrev pub HasGroups : List (List ℕ) → List Group → Type 0
HasGroups users groups = Apart (λ g h. slice_cmp nat_cmp g.name h.name ≡ Less) groups × All (IsGroup users) groups

-- ---- bounds

-- the limits are such as a repository may have; what was used of them may stand above them, and then no more is taken
abbrev pub HasBounds : Repository → Type 0
HasBounds r = (r.step ≤ greatest_limit) × (r.cost ≤ greatest_limit) × (r.next ≤ r.step + 2) × AreLimits r.limits

abbrev pub HasTokens : Repository → Type 0
HasTokens r = All (λ x. x.token ≤ r.step) r.objects

abbrev pub IsLabel : ℕ → Label → Type 0
IsLabel step l = (l.major ≤ step) × (l.minor ≤ step)

abbrev pub HasLabels : Repository → Type 0
HasLabels r = All (λ s. All (λ v. IfSome v.label (IsLabel r.step)) s.versions) r.series

-- ---- all

pub record IsWellFormed (r : Repository) : Type 0 where
  pub numbers : HasNumbers r
  pub series_numbers : HasSeriesNumbers r
  pub firsts : HasFirsts r
  pub renditions : HasRenditions r
  pub root : HasRoot r
  pub ways : HasWays r
  pub one_parent : HasOneParent r
  pub pairs : HasPairs r
  pub names : HasNames r
  pub documents : HasDocuments r
  pub series : HasSeries r
  pub plain : HasPlain r
  pub own_names : HasOwnNames r
  pub relationships : HasRelationships r
  pub policies : HasPolicies r
  pub access : HasAccess r
  pub listed : HasLists r
  pub contents : HasContents r
  pub sizes : HasSizes r
  pub typed : HasTyped r
  pub types : HasTypes r.types
  pub defs : HasDefs r.types
  pub kept : HasKept r
  pub own_values : HasOwnValues r
  pub groups : HasGroups r.users r.groups
  pub bounds : HasBounds r
  pub tokens : HasTokens r
  pub labels : HasLabels r

-- ---- how a repository begins

-- the value of a property of the root that was just made
abbrev pub root_value : List ℕ → Value
root_value id =
    if bytes_eq id (codes "cmis:name") then words (codes "root")
    else if bytes_eq id (codes "cmis:objectTypeId") then words (codes "cmis:folder")
    else Unset

-- types with which a repository may begin: they are well formed, and the root is a folder of them without a fault
pub record MayOpen (types : List TypeDef) : Type 0 where
  pub well : HasTypes types
  pub defs : HasDefs types
  pub folder : is_of_base types bases.Folder (codes "cmis:folder") ≡ true
  pub root : All (λ d. is_faulty d (root_value d.id) ≡ false) (props_of types (codes "cmis:folder") [])
