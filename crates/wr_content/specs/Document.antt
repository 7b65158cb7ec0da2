-- What the calls on content ask of the document that is addressed, and what they answer (CMIS 1.1, sections 2.2.4.18 to 2.2.4.20).
use Rattle.std.specs.Prelude.{◌≡◌, ℕ, Bool, false, not, List, Result, Ok, Err, Option, Some, unwrap_or, option_map}
use Rattle.cm_base.specs.declared.number.Moment.{Moment}
use Rattle.cm_base.specs.declared.object.Object.{Object}
use Rattle.cm_base.specs.declared.access.Level.TheVariants as levels
use Rattle.cm_base.specs.declared.cause.Cause.TheVariants as causes
use Rattle.cm_base.specs.declared.fail.Fail.{Fail}
use Rattle.cm_base.specs.Judged.{Judged, Fails, ◌>>◌, refuse}
use Rattle.cm_types.specs.declared.definition.BaseType.TheVariants as bases
use Rattle.call_parts.specs.declared.place.Place.{Place}
use Rattle.call_parts.specs.declared.readings.PropertyFilter.TheVariants as filters
use Rattle.call_parts.specs.declared.replies.ObjectReply.{ObjectReply}
use Rattle.cm_see.specs.Addressed.{addressed}
use Rattle.cm_see.specs.Shown.{shown_object}
use Rattle.cmis_spec.specs.Repository.{Repository, root_folder, is_a, type_of}
use Rattle.cmis_spec.specs.Access.{lacks}
use Rattle.cmis_spec.specs.Documents.{judge_changeable}
use Rattle.wr_rules.specs.Rules.{judge_token}
use Rattle.wr_rules.specs.Documents.{bars_content, needs_content}

-- ---- what is asked

-- the caller may change it, the token is its own, and it is a document that may be changed
abbrev pub judge_document : Repository → List ℕ → Option (List ℕ) → Object → Judged (Unit {0})
judge_document r u token x = do
  refuse causes.Denied (lacks r u levels.Write x)
  judge_token x token
  refuse causes.WrongKind (not (is_a r bases.Document x))
  judge_changeable r x

-- its type allows no content
abbrev pub is_barred : Repository → Object → Bool
is_barred r x = unwrap_or (option_map bars_content (type_of r x)) false

-- its type requires content
abbrev pub is_needed : Repository → Object → Bool
is_needed r x = unwrap_or (option_map needs_content (type_of r x)) false

-- the object that is found where the call is not refused, or the cause; want of memory is free
abbrev pub FindsOr : {A B : Type 0} → (A → B) → Result A Fail → Judged (Unit {0}) → Option B → Type 0
FindsOr view (Ok x) judged found = (judged ≡ Ok tt) × (found ≡ Some (view x))
FindsOr view (Err e) judged found = Fails e judged

-- ---- what is answered

-- the document that is addressed; where nothing is addressed the call is refused, and a root stands for it
abbrev pub document_at : Repository → List ℕ → Moment → Place → Object
document_at r u m place = unwrap_or (addressed r u place) (root_folder u m r.step)

-- a document as the caller sees it after the step
abbrev pub changed_reply : Repository → List ℕ → Bool → Object → ObjectReply
changed_reply after u succinct x = record { object = shown_object after u filters.All succinct x; created = false }
