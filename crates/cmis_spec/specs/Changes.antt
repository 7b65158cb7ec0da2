-- The changes of which writes are made.
use Rattle.std.specs.Prelude.{ℕ, ◌+◌, Bool, ◌&&◌, if◌then◌else◌, List, [], ◌∷◌, ◌++◌, map, filter, not}
use Rattle.cm_base.specs.declared.number.Oid.{Oid}
use Rattle.cm_base.specs.declared.number.Moment.{Moment}
use Rattle.cm_base.specs.declared.object.Object.{Object}
use Rattle.cm_base.specs.declared.series.Series.{Series}
use Rattle.cm_base.specs.declared.access.Ace.{Ace}
use Rattle.cm_base.specs.declared.access.AccessList.{AccessList}
use Rattle.cm_base.specs.declared.filing.Filed.{Filed}
use Rattle.cm_types.specs.declared.definition.TypeDef.{TypeDef}
use Rattle.cm_base.specs.declared.log.ChangeKind.{ChangeKind}
use Rattle.cmis_spec.specs.Repository.{Repository, same}

-- one step further, at this cost
abbrev pub stepped : Repository → ℕ → Repository
stepped r cost = record r { step = r.step + 1; cost = r.cost + cost }

-- an event at the end of the log; the marks are those of a deletion's readers, and else empty
abbrev pub noted : Repository → ChangeKind → Oid → Moment → List Bool → Repository
noted r kind n m readers = record r { log = r.log ++ record { kind = kind; object = n; moment = m; readers = readers } ∷ [] }

-- a new object with the next number, its access list and applied policies
abbrev pub with_object : Repository → Object → List Ace → List Oid → Repository
with_object r x aces policies = record r {
  objects = r.objects ++ x ∷ [];
  access = r.access ++ record { at = x.id; aces = aces } ∷ [];
  applied = r.applied ++ map (λ p. record { policy = p; object = x.id }) policies;
  next = r.next + 1;
}

-- a child more in a folder
abbrev pub with_pair : Repository → Oid → Oid → Repository
with_pair r folder child = record r { filed = r.filed ++ record { folder = folder; child = child } ∷ [] }

-- the child no longer in the folder
abbrev pub without_pair : Repository → Oid → Oid → Repository
without_pair r folder child = record r { filed = filter (λ p. not (same p.folder folder && same p.child child)) r.filed }

-- the pair of this child in the source stands in the target
abbrev pub refiled : Oid → Oid → Oid → Filed → Filed
refiled child source target p = if same p.folder source && same p.child child then record { folder = target; child = child } else p

abbrev pub moved : Repository → Oid → Oid → Oid → Repository
moved r child source target = record r { filed = map (refiled child source target) r.filed }

-- one object changed in its place
abbrev pub edited : Repository → Oid → (Object → Object) → Repository
edited r n change = record r { objects = map (λ x. if same x.id n then change x else x) r.objects }

-- one object gone; its pairs, its list and all else stay
abbrev pub without_object : Repository → Oid → Repository
without_object r n = record r { objects = filter (λ x. not (same x.id n)) r.objects }

-- a series more, one changed in its place, and one in place of the one that has its number
abbrev pub with_series : Repository → Series → Repository
with_series r s = record r { series = r.series ++ s ∷ [] }

abbrev pub series_edited : Repository → Oid → (Series → Series) → Repository
series_edited r n change = record r { series = map (λ s. if same s.id n then change s else s) r.series }

abbrev pub edited_series : Repository → Series → Repository
edited_series r s = series_edited r s.id (λ _. s)

-- an access control list more, one in place of the one that has its number, and one gone
abbrev pub with_list : Repository → AccessList → Repository
with_list r l = record r { access = r.access ++ l ∷ [] }

abbrev pub with_aces : Repository → AccessList → Repository
with_aces r l = record r { access = map (λ k. if same k.at l.at then l else k) r.access }

abbrev pub without_list : Repository → Oid → Repository
without_list r n = record r { access = filter (λ k. not (same k.at n)) r.access }

-- the content of a document gone
abbrev pub without_content : Repository → Oid → Repository
without_content r n = record r { contents = filter (λ c. not (same c.of n)) r.contents }

-- other types
abbrev pub with_types : Repository → List TypeDef → Repository
with_types r types = record r { types = types }
