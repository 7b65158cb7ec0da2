-- A repository with one of each: the folder case, which admin and the group staff read; in it a contract of two versions, which ann has
-- checked out and which is under hold, and an item, which is filed in the root too; a policy on the item; a relationship from the contract
-- to the item; and the deletion of a folder that ann could read.
use Rattle.std.specs.Prelude.{◌≡◌, ℕ, pos, true, false, List, [], ◌∷◌, ◌++◌, map, filter, Option, Some, None, option_map, codes}
use Rattle.std.proofs.Common.{refl}
use Rattle.cm_base.specs.declared.number.Moment.{Moment}
use Rattle.cm_base.specs.declared.object.Object.{Object}
use Rattle.cm_base.specs.declared.access.Ace.{Ace}
use Rattle.cm_base.specs.declared.access.Level.{Level}
use Rattle.cm_base.specs.declared.access.Level.TheVariants as levels
use Rattle.cm_base.specs.declared.cause.Cause.{Cause}
use Rattle.cm_base.specs.declared.cause.Cause.TheVariants as causes
use Rattle.cm_base.specs.declared.log.Change.{Change}
use Rattle.cm_base.specs.declared.log.ChangeKind.TheVariants as changes
use Rattle.cm_base.specs.declared.user.Group.{Group}
use Rattle.cm_base.specs.declared.value.Slot.{Slot}
use Rattle.cm_base.specs.declared.value.Value.TheVariants.{One, Many}
use Rattle.cm_base.specs.declared.value.Scalar.TheVariants.{Time, Words}
use Rattle.cm_base.specs.Limits.{usual_limits}
use Rattle.cm_base.specs.Judged.{cause_of}
use Rattle.cm_types.specs.Types.{longest_chain}
use Rattle.cmis_spec.specs.Repository.{Repository, opening, root, is_latest, series_at, levels_up, name_of}
use Rattle.cmis_spec.specs.Access.{groups_of, level_of_caller, reads, children_of, parents_of, policies_of}
use Rattle.cmis_spec.specs.Documents.{judge_changeable}
use Rattle.cmis_spec.specs.Removal.{ends_of, going, deleted}
use Rattle.cmis_spec.specs.Retention.{is_under_hold, retained_until, judge_kept, judge_retention}
use Rattle.cmis_spec.specs.Seen.{seen, seen_events}
use Rattle.cmis_rows.proofs.Rows.{admin, bob, dawn, number}
use Rattle.cm_types.specs.BaseTypes.{base_types}

abbrev ann : List ℕ
ann = codes "ann"

abbrev staff : Group
staff = record { name = codes "staff"; members = ann ∷ [] }

abbrev entry : List ℕ → Level → Ace
entry principal level = record { principal = principal; level = level }

abbrev object : ℕ → List ℕ → Object
object n kind = record {
  id = number n;
  kind = kind;
  name = None;
  secondary = [];
  values = [];
  created_by = admin;
  created_at = dawn;
  modified_by = admin;
  modified_at = dawn;
  token = n;
  series = None;
}

abbrev named : ℕ → List ℕ → List ℕ → Object
named n kind name = record (object n kind) { name = Some name }

-- a document of the one series
abbrev version : ℕ → Object
version n = record (object n (codes "cmis:document")) { series = Some (number 3) }

-- under hold, and under retention up to the moment 2000
abbrev kept : Object
kept = record (version 4) {
  secondary = codes "cmis:rm_clientMgtRetention" ∷ codes "cmis:rm_hold" ∷ [];
  values =
      record { id = codes "cmis:rm_expirationDate"; value = One (Time (pos 2000)) }
      ∷ record { id = codes "cmis:rm_holdIds"; value = Many (Words (codes "h1") ∷ []) }
      ∷ [];
}

abbrev working : Object
working = record (version 5) { name = Some (codes "draft"); secondary = kept.secondary; values = kept.values }

abbrev note : Object
note = named 6 (codes "cmis:item") (codes "note")

abbrev rule : Object
rule = named 7 (codes "cmis:policy") (codes "rule")

abbrev tie : Object
tie = record (named 8 (codes "cmis:relationship") (codes "tie")) {
  values =
      record { id = codes "cmis:sourceId"; value = One (Words (codes "4")) }
      ∷ record { id = codes "cmis:targetId"; value = One (Words (codes "6")) }
      ∷ [];
}

abbrev folder : Object
folder = named 2 (codes "cmis:folder") (codes "case")

-- who read it just before: admin, ann, bob, and anybody else
abbrev gone : Change
gone = record { kind = changes.Deleted; object = number 9; moment = dawn; readers = true ∷ true ∷ false ∷ false ∷ [] }

abbrev made : ℕ → Change
made n = record { kind = changes.Created; object = number n; moment = dawn; readers = [] }

abbrev begun : Repository
begun = opening base_types (record { name = admin; secret = codes "pw" } ∷ record { name = ann; secret = codes "a" } ∷ record { name = bob; secret = codes "b" } ∷ []) (staff ∷ []) (record { moment = dawn; first_step = 0; limits = usual_limits })

-- the working copy has this value beside the others
abbrev whole : Object → Repository
whole copy = record begun {
  objects = begun.objects ++ folder ∷ version 3 ∷ kept ∷ copy ∷ note ∷ rule ∷ tie ∷ [];
  series = record {
    id = number 3;
    name = codes "contract";
    versions = record { object = number 3; label = Some (record { major = 1; minor = 0 }) } ∷ record { object = number 4; label = Some (record { major = 2; minor = 0 }) } ∷ [];
    working = Some (record { copy = number 5; owner = ann });
  } ∷ [];
  filed =
      record { folder = root; child = number 2 }
      ∷ record { folder = number 2; child = number 3 }
      ∷ record { folder = root; child = number 6 }
      ∷ record { folder = number 2; child = number 6 }
      ∷ [];
  access =
      begun.access
      ++ record { at = number 2; aces = entry admin levels.All ∷ entry (codes "staff") levels.Read ∷ [] }
      ∷ record { at = number 3; aces = entry admin levels.All ∷ entry (codes "staff") levels.Write ∷ [] }
      ∷ record { at = number 6; aces = entry (codes "anyone") levels.Read ∷ [] }
      ∷ record { at = number 7; aces = entry (codes "anyone") levels.Read ∷ [] }
      ∷ record { at = number 8; aces = entry (codes "anyone") levels.Read ∷ [] }
      ∷ [];
  applied = record { policy = number 7; object = number 6 } ∷ [];
  log = made 2 ∷ made 6 ∷ gone ∷ [];
  next = 10;
  step = 9;
}

abbrev r : Repository
r = whole working

-- ---- groups

an_entry_of_a_group_counts_for_its_member : level_of_caller r ann folder ≡ levels.Read
an_entry_of_a_group_counts_for_its_member = refl

and_for_no_stranger : level_of_caller r bob folder ≡ levels.None
and_for_no_stranger = refl

a_user_has_his_groups : map (groups_of r) (admin ∷ ann ∷ codes "anonymous" ∷ []) ≡ [] ∷ (codes "staff" ∷ []) ∷ [] ∷ []
a_user_has_his_groups = refl

-- ---- documents

the_last_version_is_the_latest : map (λ n. option_map (λ s. is_latest s (number n)) (series_at r (number 3))) (3 ∷ 4 ∷ 5 ∷ []) ≡ Some false ∷ Some true ∷ Some false ∷ []
the_last_version_is_the_latest = refl

versions_have_the_name_of_their_series : map (name_of r) (version 3 ∷ kept ∷ working ∷ []) ≡ codes "contract" ∷ codes "contract" ∷ codes "draft" ∷ []
versions_have_the_name_of_their_series = refl

-- the owner, who reads the series, may do anything with the working copy, and the administrator; nobody else reads it
a_working_copy_is_its_owners : map (λ u. level_of_caller r u working) (admin ∷ ann ∷ bob ∷ []) ≡ levels.All ∷ levels.All ∷ levels.None ∷ []
a_working_copy_is_its_owners = refl

what_may_be_changed : map (λ x. cause_of (judge_changeable r x)) (version 3 ∷ kept ∷ working ∷ note ∷ []) ≡ Some causes.NotLatest ∷ Some causes.CheckedOut ∷ None ∷ None ∷ []
what_may_be_changed = refl

-- ---- reading

who_reads_what : map (λ u. map (λ x. x.id.0) (filter (reads r u) r.objects)) (admin ∷ ann ∷ bob ∷ [])
    ≡ (1 ∷ 2 ∷ 3 ∷ 4 ∷ 5 ∷ 6 ∷ 7 ∷ 8 ∷ []) ∷ (1 ∷ 2 ∷ 3 ∷ 4 ∷ 5 ∷ 6 ∷ 7 ∷ 8 ∷ []) ∷ (1 ∷ 6 ∷ 7 ∷ []) ∷ []
unfolding levels_up
who_reads_what = refl

-- a series stands in its folder by its latest version, and a working copy stands nowhere
children_are_latest_versions : map (λ x. x.id.0) (children_of r ann (number 2)) ≡ 4 ∷ 6 ∷ []
unfolding levels_up
children_are_latest_versions = refl

-- an item in two folders, of which bob reads one
parents_are_those_that_are_read : map (λ u. map (λ f. f.id.0) (parents_of r u (number 6))) (ann ∷ bob ∷ []) ≡ (1 ∷ 2 ∷ []) ∷ (1 ∷ []) ∷ []
unfolding levels_up
parents_are_those_that_are_read = refl

a_policy_is_applied : map (λ p. p.id.0) (policies_of r bob (number 6)) ≡ 7 ∷ []
unfolding levels_up
a_policy_is_applied = refl

-- ---- relationships, and what goes with a deletion

a_relationship_has_two_ends : ends_of tie ≡ codes "4" ∷ codes "6" ∷ []
a_relationship_has_two_ends = refl

a_relationship_goes_with_its_end : going r (number 6 ∷ []) ≡ number 6 ∷ number 8 ∷ []
a_relationship_goes_with_its_end = refl

abbrev less : Repository
less = deleted r dawn (number 6 ∷ [])

its_filing_goes : map (λ p. p.child.0) less.filed ≡ 2 ∷ 3 ∷ []
its_filing_goes = refl

its_list_goes : map (λ l. l.at.0) less.access ≡ 1 ∷ 2 ∷ 3 ∷ 7 ∷ []
its_list_goes = refl

its_policies_are_applied_no_more : less.applied ≡ []
its_policies_are_applied_no_more = refl

-- its deletion tells who read it, and so does that of the relationship, which bob did not read
a_deletion_keeps_its_readers : map (λ c. c.readers) less.log ≡ [] ∷ [] ∷ gone.readers ∷ (true ∷ true ∷ true ∷ true ∷ []) ∷ (true ∷ true ∷ false ∷ false ∷ []) ∷ []
unfolding levels_up
a_deletion_keeps_its_readers = refl

-- ---- the change log

events_are_visible_to_readers : map (λ u. map (λ e. e.number) (seen_events r u 1 r.log)) (admin ∷ ann ∷ bob ∷ codes "anonymous" ∷ [])
    ≡ (1 ∷ 2 ∷ 3 ∷ []) ∷ (1 ∷ 2 ∷ 3 ∷ []) ∷ (2 ∷ []) ∷ (2 ∷ []) ∷ []
unfolding levels_up
events_are_visible_to_readers = refl

-- ---- retention and holds

a_version_is_under_hold_and_a_working_copy_is_not : map (is_under_hold r) (version 3 ∷ kept ∷ working ∷ note ∷ []) ≡ false ∷ true ∷ false ∷ false ∷ []
unfolding longest_chain
a_version_is_under_hold_and_a_working_copy_is_not = refl

abbrev moment : ℕ → Moment
moment n = record { 0 = pos n }

a_retention_ends_at_its_expiration : map (λ n. retained_until r (moment n) kept) (0 ∷ 1999 ∷ 2000 ∷ []) ≡ Some (moment 2000) ∷ Some (moment 2000) ∷ None ∷ []
unfolding longest_chain
a_retention_ends_at_its_expiration = refl

a_hold_comes_before_a_retention : cause_of (judge_kept r dawn (version 3 ∷ kept ∷ [])) ≡ Some causes.Held
unfolding longest_chain
a_hold_comes_before_a_retention = refl

abbrev until : ℕ → List Slot
until n = record { id = codes "cmis:rm_expirationDate"; value = One (Time (pos n)) } ∷ []

abbrev shortened_by : List (List ℕ) → List Slot → Option Cause
shortened_by secondary values = cause_of (judge_retention r dawn secondary values kept)

the_type_stays : shortened_by [] (until 3000) ≡ Some (causes.Shortened dawn (moment 2000))
unfolding longest_chain
the_type_stays = refl

the_date_stays : shortened_by kept.secondary [] ≡ Some (causes.Shortened dawn (moment 2000))
unfolding longest_chain
the_date_stays = refl

it_ends_no_sooner : map (λ n. shortened_by kept.secondary (until n)) (1999 ∷ 2000 ∷ 3000 ∷ []) ≡ Some (causes.Shortened dawn (moment 2000)) ∷ None ∷ None ∷ []
unfolding longest_chain
it_ends_no_sooner = refl

-- ---- what is seen

-- what ann changes of her working copy is not seen by bob
a_working_copy_is_not_seen : seen (whole working) bob ≡ seen (whole (record working { values = [] })) bob
unfolding levels_up
a_working_copy_is_not_seen = refl
