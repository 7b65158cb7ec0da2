-- Documents and their version series: labels, what may be changed, and the changes of which their writes are made (CMIS 1.1, section 2.1.13).
use Rattle.std.specs.Prelude.{ℕ, ◌+◌, nat_lt, Bool, true, false, not, if◌then◌else◌, List, [], ◌∷◌, ◌++◌, map, filter, Option, Some, None, is_some, unwrap_or, option_map, option_and_then, bytes_eq, codes}
use Rattle.cm_base.specs.declared.number.Oid.{Oid}
use Rattle.cm_base.specs.declared.object.Object.{Object}
use Rattle.cm_base.specs.declared.access.Ace.{Ace}
use Rattle.cm_base.specs.declared.series.Series.{Series}
use Rattle.cm_base.specs.declared.series.Label.{Label}
use Rattle.cm_base.specs.declared.content.Content.{Content}
use Rattle.cm_base.specs.declared.value.Slot.{Slot}
use Rattle.cm_base.specs.declared.cause.Cause.{Cause}
use Rattle.cm_base.specs.declared.cause.Cause.TheVariants as causes
use Rattle.cm_base.specs.Judged.{Judged, judge_by}
use Rattle.cmis_spec.specs.Repository.{Repository, same, object_at, series_at, series_of, last_of, is_latest, latest_version}
use Rattle.cmis_spec.specs.Changes.{edited, with_series, series_edited, with_list}
use Rattle.cmis_spec.specs.Values.{words}

-- ---- labels (section 2.1.13.2)

-- that of the last version; labels count from 0.0
abbrev pub last_label : Series → Label
last_label s = unwrap_or (option_and_then (λ v. v.label) (last_of s.versions)) (record { major = 0; minor = 0 })

-- of a major version, or of a minor one
abbrev pub next_label : Bool → Label → Label
next_label true l = record { major = l.major + 1; minor = 0 }
next_label false l = record { major = l.major; minor = l.minor + 1 }

-- ---- what may be changed

abbrev pub is_copy_of : Series → Oid → Bool
is_copy_of s n = unwrap_or (option_map (λ w. same w.copy n) s.working) false

abbrev pub is_working_copy : Repository → Object → Bool
is_working_copy r x = unwrap_or (option_map (λ s. is_copy_of s x.id) (series_of r x)) false

-- a working copy may be changed, and the latest version of a series that isn't checked out
abbrev pub fixed_in : Oid → Series → Option Cause
fixed_in n s =
    if is_copy_of s n then None
    else if not (is_latest s n) then Some causes.NotLatest
    else if is_some s.working then Some causes.CheckedOut
    else None

-- what is no document may always be changed
abbrev pub judge_changeable : Repository → Object → Judged (Unit {0})
judge_changeable r x = judge_by (option_and_then (fixed_in x.id) (series_of r x))

-- ---- what stands in folders (section 2.1.5.2)

-- the object that stands for an entry: of a series its latest version, if it has one; a folder or an item stands for itself
abbrev pub standing : Repository → Oid → Option Object
standing r n = unwrap_or (option_map (latest_version r) (series_at r n)) (object_at r n)

-- ---- the comment of a check-in (section 2.1.13.5)

abbrev pub is_comment : Slot → Bool
is_comment s = bytes_eq s.id (codes "cmis:checkinComment")

-- it is never copied
abbrev pub without_comment : List Slot → List Slot
without_comment slots = filter (λ s. not (is_comment s)) slots

-- it is set by a check-in alone
abbrev pub with_comment : List Slot → Option (List ℕ) → List Slot
with_comment slots None = without_comment slots
with_comment slots (Some comment) = record { id = codes "cmis:checkinComment"; value = words comment } ∷ without_comment slots

-- ---- changes of series

-- a new object with the next number, which belongs to a series and has no list of its own
abbrev pub with_member : Repository → Object → Repository
with_member r x = record r { objects = r.objects ++ x ∷ []; next = r.next + 1 }

-- a new document with its new series, which has its number, and the access list of the series
abbrev pub with_document : Repository → Object → Series → List Ace → Repository
with_document r x s aces = with_list (with_series (with_member r x) s) (record { at = s.id; aces = aces })

-- a series that its owner checked out
abbrev pub checked_out : Oid → List ℕ → Series → Series
checked_out copy owner s = record s { working = Some (record { copy = copy; owner = owner }) }

-- a new working copy of the series with number n
abbrev pub with_copy : Repository → Oid → Object → List ℕ → Repository
with_copy r n x owner = series_edited (with_member r x) n (checked_out x.id owner)

-- a series whose working copy is its latest version, under the name of the copy
abbrev pub checked_in : Oid → Label → List ℕ → Series → Series
checked_in copy label name s = record s {
  name = name;
  versions = s.versions ++ record { object = copy; label = Some label } ∷ [];
  working = None;
}

-- the object in place of the working copy that has its number, as the latest version of the series with number n
abbrev pub with_version : Repository → Oid → Object → Label → List ℕ → Repository
with_version r n x label name = series_edited (edited r x.id (λ _. x)) n (checked_in x.id label name)

-- ---- changes beside

-- policies more on an object
abbrev pub with_policies : Repository → Oid → List Oid → Repository
with_policies r n policies = record r { applied = r.applied ++ map (λ p. record { policy = p; object = n }) policies }

-- the content of a document, in place of an older one
abbrev pub with_content : Repository → Content → Repository
with_content r c = record r { contents = filter (λ d. nat_lt d.of.0 c.of.0) r.contents ++ c ∷ filter (λ d. nat_lt c.of.0 d.of.0) r.contents }

-- a content that there is
abbrev pub with_contents : Repository → Option Content → Repository
with_contents r None = r
with_contents r (Some c) = with_content r c
