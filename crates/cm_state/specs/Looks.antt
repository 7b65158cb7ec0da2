-- What is looked up in a repository.
use Rattle.std.specs.Prelude.{ℕ, ◌==◌, Bool, false, ◌&&◌, if◌then◌else◌, List, map, filter, find, Option, Some, None, is_none, option_map, option_and_then, unwrap_or, bytes_eq}
use Rattle.std.specs.List.{list_any}
use Rattle.cm_base.specs.declared.number.Oid.{Oid}
use Rattle.cm_base.specs.declared.object.Object.{Object}
use Rattle.cm_base.specs.declared.series.Series.{Series}
use Rattle.cm_base.specs.declared.access.AccessList.{AccessList}
use Rattle.cm_base.specs.declared.content.Content.{Content}
use Rattle.cm_base.specs.declared.content.Rendition.{Rendition}
use Rattle.cmis_spec.specs.Repository.{Repository, same, object_at, series_at, latest_version, entry_of, entry_name, is_filed, is_of_type}
use Rattle.cmis_spec.specs.Access.{stands}
use Rattle.cmis_spec.specs.Removal.{ends_of, is_id_of}

-- the access control list that is kept under the number, if there is one
abbrev pub list_at : Repository → Oid → Option AccessList
list_at r n = find (λ l. same l.at n) r.access

-- the content of a document, if it has any
abbrev pub content_at : Repository → Oid → Option Content
content_at r n = find (λ c. same c.of n) r.contents

-- the rendition of this number
abbrev pub rendition_at : Repository → Oid → Option Rendition
rendition_at r n = find (λ d. same d.id n) r.renditions

-- the renditions of a document, in the order of their numbers
abbrev pub renditions_of : Repository → Oid → List Rendition
renditions_of r n = filter (λ d. same d.of n) r.renditions

-- the policies that are applied to the object, in the order in which they were
abbrev pub policies_on : Repository → Oid → List Oid
policies_on r n = map (λ a. a.policy) (filter (λ a. same a.object n) r.applied)

-- the policy is applied to the object
abbrev pub is_applied : Repository → Oid → Oid → Bool
is_applied r policy n = list_any (λ a. same a.policy policy && same a.object n) r.applied

-- the policy is applied to an object
abbrev pub is_policy_used : Repository → Oid → Bool
is_policy_used r policy = list_any (λ a. same a.policy policy) r.applied

-- the children of a folder, in the order of their pairs
abbrev pub entries_in : Repository → Oid → List Oid
entries_in r f = map (λ p. p.child) (filter (λ p. same p.folder f) r.filed)

-- the folders of a child, in the order of its pairs
abbrev pub folders_in : Repository → Oid → List Oid
folders_in r n = map (λ p. p.folder) (filter (λ p. same p.child n) r.filed)

-- the first child of the folder that has the name
abbrev pub child_in : Repository → Oid → List ℕ → Option Oid
child_in r f name = option_map (λ p. p.child) (find (λ p. same p.folder f && bytes_eq (entry_name r p.child) name) r.filed)

-- the object of this number, where it is in no series
abbrev pub own_at : Repository → Oid → Option Object
own_at r n = option_and_then (λ x. if is_none x.series then Some x else None) (object_at r n)

-- what stands for an entry: the latest version of a series, or else the folder or item
abbrev pub standing_by : Repository → Oid → Option Series → Option Object
standing_by r n (Some s) = latest_version r s
standing_by r n None = own_at r n

abbrev pub standing_at : Repository → Oid → Option Object
standing_at r n = standing_by r n (series_at r n)

abbrev pub has_number : ℕ → Option Object → Bool
has_number n o = unwrap_or (option_map (λ x. x.id.0 == n) o) false

-- the objects that stand in the folder under their names, in the order of their numbers
abbrev pub standing_in : Repository → Oid → List Object
standing_in r f = filter (λ x. is_filed r f (entry_of x) && stands r x) r.objects

-- the objects that name this one as an end, as relationships do (CMIS 1.1, section 2.1.6), in the order of their numbers
abbrev pub tied_to : Repository → Oid → List Oid
tied_to r n = map (λ x. x.id) (filter (λ x. list_any (is_id_of n) (ends_of x)) r.objects)

-- the numbers of the objects of a type, also of those that have it as a secondary type
abbrev pub numbers_of_type : Repository → List ℕ → List Oid
numbers_of_type r id = map (λ x. x.id) (filter (is_of_type id) r.objects)

abbrev pub numbers_in : Repository → Oid → List Oid
numbers_in r f = map (λ x. x.id) (standing_in r f)
