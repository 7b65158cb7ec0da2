-- Objects that go, with all that is theirs (CMIS 1.1, sections 2.1.3 and 2.1.13).
use Rattle.std.specs.Prelude.{ℕ, Bool, true, false, ◌&&◌, not, if◌then◌else◌, List, [], ◌∷◌, ◌++◌, map, filter, Some, None, unwrap_or, option_map, option_and_then, codes}
use Rattle.std.specs.List.{list_any, flat_map}
use Rattle.cm_base.specs.declared.number.Oid.{Oid}
use Rattle.cm_base.specs.declared.number.Moment.{Moment}
use Rattle.cm_base.specs.declared.object.Object.{Object}
use Rattle.cm_base.specs.declared.series.Series.{Series}
use Rattle.cm_base.specs.declared.log.Change.{Change}
use Rattle.cm_base.specs.declared.log.ChangeKind.TheVariants as changes
use Rattle.cm_types.specs.declared.definition.BaseType.TheVariants as bases
use Rattle.cm_types.specs.Properties.{value_in, texts_of}
use Rattle.cmis_spec.specs.Repository.{Repository, same, object_at, series_at, is_a}
use Rattle.cmis_spec.specs.Access.{oid_named, reads}
use Rattle.cmis_spec.specs.Well.{members}

-- ---- what is left

-- of a series: the versions that stay, and the working copy if it stays
abbrev pub left_in : (Oid → Bool) → Series → Series
left_in gone s = record s {
  versions = filter (λ v. not (gone v.object)) s.versions;
  working = option_and_then (λ w. if gone w.copy then None else Some w) s.working;
}

abbrev pub has_members : Series → Bool
has_members s = list_any (λ n. true) (members s)

-- what is filed, named and listed for access goes with its object, or with the last document of its series
abbrev pub entry_goes : Repository → (Oid → Bool) → Oid → Bool
entry_goes r gone n = unwrap_or (option_map (λ s. not (has_members (left_in gone s))) (series_at r n)) (gone n)

-- without the objects of these numbers
abbrev pub removed : Repository → (Oid → Bool) → Repository
removed r gone = record r {
  objects = filter (λ x. not (gone x.id)) r.objects;
  series = filter has_members (map (left_in gone) r.series);
  filed = filter (λ p. not (entry_goes r gone p.child)) r.filed;
  access = filter (λ l. not (entry_goes r gone l.at)) r.access;
  applied = filter (λ a. not (gone a.object)) r.applied;
  contents = filter (λ c. not (gone c.of)) r.contents;
  renditions = filter (λ d. not (gone d.of)) r.renditions;
}

-- ---- relationships that go too (section 2.1.6)

abbrev pub ends_of : Object → List (List ℕ)
ends_of x = texts_of (value_in x.values (codes "cmis:sourceId")) ++ texts_of (value_in x.values (codes "cmis:targetId"))

abbrev pub is_id_of : Oid → List ℕ → Bool
is_id_of n id = unwrap_or (option_map (same n) (oid_named id)) false

-- the relationship begins or ends at the object of this number
abbrev pub is_tied : Repository → Oid → Object → Bool
is_tied r n x = is_a r bases.Relationship x && list_any (is_id_of n) (ends_of x)

-- an object, and then the relationships that go with it, in the order of their numbers
abbrev pub going_with : Repository → Oid → List Oid
going_with r n = n ∷ map (λ x. x.id) (filter (is_tied r n) r.objects)

abbrev pub among : List Oid → Oid → Bool
among ns n = list_any (same n) ns

-- each number where it stands first
abbrev pub each_once : List Oid → List Oid
each_once [] = []
each_once (n ∷ ns) = n ∷ filter (λ m. not (same n m)) (each_once ns)

-- all that goes where these objects go
abbrev pub going : Repository → List Oid → List Oid
going r ns = each_once (flat_map (going_with r) ns)

-- ---- the events

-- one mark a user, and then one for anybody else: who reads the object
abbrev pub readers_of : Repository → Object → List Bool
readers_of r x = map (λ u. reads r u x) r.users ++ reads r (codes "anonymous") x ∷ []

abbrev pub marks_at : Repository → Oid → List Bool
marks_at r n = unwrap_or (option_map (readers_of r) (object_at r n)) []

-- the deletion keeps who read the object just before
abbrev pub deletion : Repository → Moment → Oid → Change
deletion r m n = record { kind = changes.Deleted; object = n; moment = m; readers = marks_at r n }

-- the objects go, and the relationships that they end
abbrev pub deleted : Repository → Moment → List Oid → Repository
deleted r m ns = record (removed r (among (going r ns))) { log = r.log ++ map (deletion r m) (going r ns) }
