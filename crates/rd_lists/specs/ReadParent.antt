-- The parent of a folder (CMIS 1.1, section 2.2.3.4).
use Rattle.std.specs.Prelude.{ℕ, Bool, false, not, List, Option, option_and_then, Ok}
use Rattle.cm_base.specs.declared.object.Object.{Object}
use Rattle.cm_base.specs.declared.cause.Cause.TheVariants as causes
use Rattle.cm_base.specs.Judged.{Judged, ◌>>=◌, ◌>>◌, find_or, refuse}
use Rattle.cm_types.specs.declared.definition.BaseType.TheVariants as bases
use Rattle.call_parts.specs.declared.readings.PropertyFilter.TheVariants as filters
use Rattle.call_parts.specs.declared.readings.ReadParent.{ReadParent}
use Rattle.call_parts.specs.declared.replies.ObjectReply.{ObjectReply}
use Rattle.cm_see.specs.Addressed.{addressed}
use Rattle.cm_see.specs.Shown.{shown_object}
use Rattle.cmis_spec.specs.Repository.{Repository, is_a, parent_in}
use Rattle.cmis_spec.specs.Access.{read_at}

-- the parent of a folder, where the caller reads it; the root has none
abbrev pub parent_of : Repository → List ℕ → Object → Option Object
parent_of r u x = option_and_then (read_at r u) (parent_in r.filed x.id)

-- a folder as the caller sees it, with its properties alone
abbrev pub parent_reply : Repository → List ℕ → Bool → Object → ObjectReply
parent_reply r u succinct f = record { object = shown_object r u filters.All succinct f; created = false }

abbrev pub answer_parent_of : Repository → List ℕ → Bool → Object → Judged ObjectReply
answer_parent_of r u succinct x = do
  refuse causes.WrongKind (not (is_a r bases.Folder x))
  f ← find_or causes.RootParent (parent_of r u x)
  Ok (parent_reply r u succinct f)

abbrev pub answer_parent : Repository → List ℕ → ReadParent → Judged ObjectReply
answer_parent r u q = do
  x ← find_or causes.NotFound (addressed r u q.place)
  answer_parent_of r u q.succinct x
