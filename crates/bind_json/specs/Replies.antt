-- The JSON of replies, and what is sent of them (CMIS 1.1, sections 5.2.10 and 5.2.11).
use Rattle.std.specs.Prelude.{ℕ, Bool, length, ◌==◌, Some, if◌then◌else◌}
use Rattle.serde_json.specs.Written.{compact_text}
use Rattle.cm_base.specs.declared.shown.Shown.{Shown}
use Rattle.delete_tree_parts.specs.declared.replies.DeleteTreeReply.{DeleteTreeReply}
use Rattle.cm_call.specs.declared.reply.Reply.{Reply}
use Rattle.cm_call.specs.declared.reply.Reply.TheVariants as replies
use Rattle.object_json.specs.Objects.{properties_alone_data, shown_data}
use Rattle.object_json.specs.Sent.{shown_json, shown_nothing}
use Rattle.include_json.specs.Pages.{reply_data as included_data, children_data, objects_data as included_objects_data, page_data, parents_data}
use Rattle.type_replies.specs.Infos.{infos_data}
use Rattle.type_replies.specs.Types.{definition_data, types_data, type_tree_data}
use Rattle.object_json.specs.Lists.{objects_data}
use Rattle.object_json.specs.Access.{acl_data}
use Rattle.include_json.specs.Rows.{query_data}
use Rattle.include_json.specs.Trees.{tree_data}
use Rattle.call_json.specs.Changes.{changes_data}
use Rattle.call_json.specs.Left.{left_data}
use Rattle.call_json.specs.Updated.{updated_objects_data}
use Rattle.call_json.specs.Renditions.{reply_data}
use Rattle.call_json.specs.Actions.{actions_data}

-- 201 where the call made what is shown
abbrev pub status_of : Bool → ℕ
status_of created = if created then 201 else 200

-- what is sent of the removal of a tree: the ids that are left, if there are any
abbrev pub shown_left : DeleteTreeReply → ℕ → Shown
shown_left reply step = if length reply.ids == 0 then shown_nothing step else shown_json 200 (compact_text (left_data reply)) step

-- what is sent of a reply that was made at this step: compact JSON, bytes with their type, or nothing
abbrev pub shown_reply : Reply → ℕ → Shown
shown_reply (replies.Object reply) step = shown_json (status_of reply.created) (compact_text (shown_data reply.object)) step
shown_reply (replies.Properties reply) step = shown_json 200 (compact_text (properties_alone_data reply.object)) step
shown_reply (replies.Included reply) step = shown_json 200 (compact_text (included_data reply)) step
shown_reply (replies.Type reply) step = shown_json (status_of reply.created) (compact_text (definition_data reply)) step
shown_reply (replies.Types reply) step = shown_json 200 (compact_text (types_data reply)) step
shown_reply (replies.TypeTree reply) step = shown_json 200 (compact_text (type_tree_data reply)) step
shown_reply (replies.Info reply) step = shown_json 200 (compact_text (infos_data reply)) step
shown_reply (replies.Children reply) step = shown_json 200 (compact_text (children_data reply)) step
shown_reply (replies.Objects reply) step = shown_json 200 (compact_text (objects_data reply)) step
shown_reply (replies.IncludedObjects reply) step = shown_json 200 (compact_text (included_objects_data reply)) step
shown_reply (replies.Parents reply) step = shown_json 200 (compact_text (parents_data reply)) step
shown_reply (replies.Acl reply) step = shown_json 200 (compact_text (acl_data reply)) step
shown_reply (replies.Query reply) step = shown_json 200 (compact_text (query_data reply)) step
shown_reply (replies.Tree reply) step = shown_json 200 (compact_text (tree_data reply)) step
shown_reply (replies.Page reply) step = shown_json 200 (compact_text (page_data reply)) step
shown_reply (replies.Changes reply) step = shown_json 200 (compact_text (changes_data reply)) step
shown_reply (replies.DeleteTree reply) step = shown_left reply step
shown_reply (replies.Updated reply) step = shown_json 200 (compact_text (updated_objects_data reply)) step
shown_reply (replies.Renditions reply) step = shown_json 200 (compact_text (reply_data reply)) step
shown_reply (replies.Actions reply) step = shown_json 200 (compact_text (actions_data reply)) step
shown_reply (replies.Content reply) step = record { status = 200; kind = reply.kind; body = reply.body; number = Some step }
shown_reply replies.Nothing step = shown_nothing step
