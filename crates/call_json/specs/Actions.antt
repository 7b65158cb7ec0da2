-- The JSON of the actions that a caller is allowed on an object (CMIS 1.1, sections 2.2.4.7 and 5.2.11).
use Rattle.std.specs.Prelude.{ℕ, List, map}
use Rattle.serde_json.specs.Data.{Data, boolean}
use Rattle.json_text.specs.Build.{object_data}
use Rattle.action_parts.specs.declared.replies.ActionFlag.{ActionFlag}
use Rattle.action_parts.specs.declared.replies.ActionsReply.{ActionsReply}
use Rattle.action_parts.specs.Actions.{name_of_action}

abbrev pub flag_field : ActionFlag → List ℕ × Data
flag_field f = (name_of_action f.action, boolean f.is_allowed)

-- from the names of the actions to whether they are allowed
abbrev pub flags_data : List ActionFlag → Data
flags_data flags = object_data (map flag_field flags)

abbrev pub actions_data : ActionsReply → Data
actions_data r = flags_data r.actions
