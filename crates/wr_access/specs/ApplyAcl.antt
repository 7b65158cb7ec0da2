-- applyACL (CMIS 1.1, section 2.2.10.1): when it is refused, what it makes of the repository, and what it answers.
use Rattle.std.specs.Prelude.{ℕ, Bool, true, false, ◌||◌, not, List, [], unwrap_or, option_map}
use Rattle.cm_base.specs.declared.number.Moment.{Moment}
use Rattle.cm_base.specs.declared.object.Object.{Object}
use Rattle.cm_base.specs.declared.access.AccessList.{AccessList}
use Rattle.cm_base.specs.declared.access.Level.TheVariants as levels
use Rattle.cm_base.specs.declared.log.ChangeKind.TheVariants as changes
use Rattle.cm_base.specs.declared.cause.Cause.TheVariants as causes
use Rattle.cm_base.specs.Judged.{Judged, ◌>>=◌, ◌>>◌, refuse, find_or}
use Rattle.call_parts.specs.declared.replies.AclReply.{AclReply}
use Rattle.access_parts.specs.declared.writes.ApplyAcl.{ApplyAcl}
use Rattle.access_parts.specs.declared.writes.Propagation.{Propagation}
use Rattle.access_parts.specs.declared.writes.Propagation.TheVariants as propagations
use Rattle.access_parts.specs.Weight.{weight_of_apply_acl}
use Rattle.cm_acl.specs.Acl.{changed_aces}
use Rattle.cm_see.specs.Addressed.{addressed}
use Rattle.cmis_spec.specs.Repository.{Repository, entry_of, type_of}
use Rattle.cmis_spec.specs.Access.{is_at_least, aces_at, level_by_list}
use Rattle.cmis_spec.specs.Changes.{stepped, noted, with_aces}
use Rattle.wr_rules.specs.Rules.{judge_storage, has_unknown_permission, aces_in}
use Rattle.rd_access.specs.ReadAcl.{acl_reply}

abbrev pub cost_apply_acl : ApplyAcl → ℕ
cost_apply_acl call = weight_of_apply_acl call

-- ---- the refusal

-- the list of the object, or of its series, does not let the caller do anything; it counts alone, so that the owner of a working copy is
-- no exception
abbrev pub may_not_change : Repository → List ℕ → Object → Bool
may_not_change r u x = not (is_at_least levels.All (level_by_list r u (entry_of x)))

-- objects of its type keep their lists
abbrev pub keeps_its_list : Repository → Object → Bool
keeps_its_list r x = unwrap_or (option_map (λ t. not t.controllable_acl) (type_of r x)) false

-- no list reaches another object
abbrev pub is_offered : Propagation → Bool
is_offered propagations.RepositoryDetermined = true
is_offered propagations.ObjectOnly = true
is_offered propagations.Propagate = false

-- the caller may change the list of the object, and the change is one that is offered
abbrev pub judge_change : Repository → List ℕ → ApplyAcl → Object → Judged (Unit {0})
judge_change r u call x = do
  refuse causes.Denied (may_not_change r u x)
  refuse causes.NotControllable (keeps_its_list r x)
  refuse causes.Permission (has_unknown_permission call.remove || has_unknown_permission call.add)
  refuse causes.Propagation (not (is_offered call.propagation))

abbrev pub refusal_apply_acl : Repository → List ℕ → ℕ → ApplyAcl → Judged (Unit {0})
refusal_apply_acl r u cost call = do
  judge_storage r cost
  x ← find_or causes.NotFound (addressed r u call.place)
  judge_change r u call x

-- ---- the repository after it

-- the list of the object, or of its series, after the removals and then the additions
abbrev pub changed_list : Repository → ApplyAcl → Object → AccessList
changed_list r call x = record { at = entry_of x; aces = changed_aces (aces_at r (entry_of x)) (aces_in call.remove) (aces_in call.add) }

-- with this list in place of the old one, one step further, with the event of the object that is addressed
abbrev pub relisted : Repository → AccessList → Object → Moment → ℕ → Repository
relisted r list x m cost = noted (stepped (with_aces r list) cost) changes.Security x.id m []

abbrev pub after_apply_acl_of : Repository → Moment → ℕ → ApplyAcl → Object → Repository
after_apply_acl_of r m cost call x = relisted r (changed_list r call x) x m cost

abbrev pub after_apply_acl : Repository → List ℕ → Moment → ℕ → ApplyAcl → Repository
after_apply_acl r u m cost call = unwrap_or (option_map (after_apply_acl_of r m cost call) (addressed r u call.place)) r

-- ---- the reply

-- the list after the step, as whoever reads the object is shown it; where nothing is addressed the call is refused, and an empty one
-- stands for it
abbrev pub acknowledgement_apply_acl : Repository → List ℕ → Moment → ℕ → ApplyAcl → AclReply
acknowledgement_apply_acl r u m cost call = unwrap_or (option_map (acl_reply (after_apply_acl r u m cost call)) (addressed r u call.place)) (record { aces = [] })
