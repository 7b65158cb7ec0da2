-- The actions that the caller is allowed on an object (CMIS 1.1, section 2.2.4.7).
use Rattle.std.specs.Prelude.{ℕ, List, Ok}
use Rattle.cm_base.specs.declared.object.Object.{Object}
use Rattle.cm_base.specs.declared.cause.Cause.TheVariants as causes
use Rattle.cm_base.specs.Judged.{Judged, ◌>>=◌, find_or}
use Rattle.action_parts.specs.declared.readings.ReadActions.{ReadActions}
use Rattle.action_parts.specs.declared.replies.ActionsReply.{ActionsReply}
use Rattle.cm_see.specs.Addressed.{addressed}
use Rattle.cmis_spec.specs.Repository.{Repository}
use Rattle.cm_actions.specs.Allowed.{actions_of}

-- each action, and whether he may do it
abbrev pub actions_reply : Repository → List ℕ → Object → ActionsReply
actions_reply r u x = record { actions = actions_of r u x }

abbrev pub answer_actions : Repository → List ℕ → ReadActions → Judged ActionsReply
answer_actions r u q = do
  x ← find_or causes.NotFound (addressed r u q.place)
  Ok (actions_reply r u x)
