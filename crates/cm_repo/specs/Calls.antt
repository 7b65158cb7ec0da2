-- The calls of the repository: why a write is refused, what it makes of the repository and what it is answered; what a question is answered. One equation a call.
use Rattle.std.specs.Prelude.{ℕ, List, Result, Ok, if◌then◌else◌}
use Rattle.cm_base.specs.declared.number.Moment.{Moment}
use Rattle.cm_base.specs.declared.cause.Cause.{Cause}
use Rattle.cm_base.specs.declared.cause.Cause.TheVariants as causes
use Rattle.cm_base.specs.declared.object.Object.{Object}
use Rattle.cm_base.specs.Judged.{Judged, ◌>>=◌, ◌>>◌, find_or}
use Rattle.cm_types.specs.declared.definition.BaseType.TheVariants as bases
use Rattle.include_parts.specs.declared.readings.ShowDefault.{ShowDefault}
use Rattle.cm_call.specs.declared.write.Write.{Write}
use Rattle.cm_call.specs.declared.write.Write.TheVariants as writes
use Rattle.cm_call.specs.declared.question.Question.{Question}
use Rattle.cm_call.specs.declared.question.Question.TheVariants as questions
use Rattle.cm_call.specs.declared.reply.Reply.{Reply}
use Rattle.cm_call.specs.declared.reply.Reply.TheVariants as replies
use Rattle.cmis_spec.specs.Repository.{Repository, is_a}
use Rattle.cm_see.specs.Addressed.{addressed}
use Rattle.desk_model.specs.declared.entry.Entry.{Entry}
use Rattle.wr_object.specs.CreateFolder.{cost_create_folder, refusal_create_folder, after_create_folder, acknowledgement_create_folder}
use Rattle.wr_object.specs.CreateDocument.{cost_create_document, refusal_create_document, after_create_document, acknowledgement_create_document}
use Rattle.wr_version.specs.CheckOut.{cost_check_out, refusal_check_out, after_check_out, acknowledgement_check_out}
use Rattle.wr_version.specs.CheckIn.{cost_check_in, refusal_check_in, after_check_in, acknowledgement_check_in}
use Rattle.rd_version.specs.Content.{answer_content, answer_stream}
use Rattle.rd_include.specs.ShowObject.{answer_included, answer_show_object, answer_show_properties}
use Rattle.rd_include.specs.ShowChildren.{answer_show_children}
use Rattle.rd_types.specs.ReadInfo.{answer_info}
use Rattle.rd_types.specs.ReadTypes.{answer_type_definition, answer_type_children, answer_type_descendants}
use Rattle.wr_content.specs.SetContent.{cost_set_content, refusal_set_content, after_set_content, acknowledgement_set_content}
use Rattle.wr_content.specs.AppendContent.{cost_append_content, refusal_append_content, after_append_content, acknowledgement_append_content}
use Rattle.wr_content.specs.DeleteContent.{cost_delete_content, refusal_delete_content, after_delete_content, acknowledgement_delete_content}
use Rattle.rd_include.specs.ShowVersions.{answer_show_versions}
use Rattle.rd_include.specs.ShowParents.{answer_show_parents}
use Rattle.rd_lists.specs.ReadParent.{answer_parent}
use Rattle.wr_filing.specs.MoveObject.{cost_move, refusal_move, after_move, acknowledgement_move}
use Rattle.wr_filing.specs.AddToFolder.{cost_add_to_folder, refusal_add_to_folder, after_add_to_folder, acknowledgement_add_to_folder}
use Rattle.wr_filing.specs.RemoveFromFolder.{cost_remove_from_folder, refusal_remove_from_folder, after_remove_from_folder, acknowledgement_remove_from_folder}
use Rattle.rd_access.specs.ReadPolicies.{answer_policies}
use Rattle.rd_access.specs.ReadAcl.{answer_acl}
use Rattle.rd_query.specs.ReadQuery.{answer_query}
use Rattle.wr_remove.specs.Delete.{cost_delete, refusal_delete, after_delete}
use Rattle.wr_remove.specs.CancelCheckOut.{cost_cancel, refusal_cancel, after_cancel}
use Rattle.wr_change.specs.Update.{cost_update, refusal_update, after_update, acknowledgement_update}
use Rattle.wr_access.specs.ApplyAcl.{cost_apply_acl, refusal_apply_acl, after_apply_acl, acknowledgement_apply_acl}
use Rattle.rd_trees.specs.ReadTree.{answer_tree}
use Rattle.rd_trees.specs.ReadCheckedOut.{answer_checked_out}
use Rattle.rd_log.specs.ReadChanges.{answer_changes}
use Rattle.wr_types.specs.CreateType.{cost_create_type, refusal_create_type, after_create_type, acknowledgement_create_type}
use Rattle.wr_types.specs.UpdateType.{cost_update_type, refusal_update_type, after_update_type, acknowledgement_update_type}
use Rattle.wr_types.specs.DeleteType.{cost_delete_type, refusal_delete_type, after_delete_type}
use Rattle.wr_create.specs.CreateItem.{cost_create_item, refusal_create_item, after_create_item, acknowledgement_create_item}
use Rattle.wr_create.specs.CreatePolicy.{cost_create_policy, refusal_create_policy, after_create_policy, acknowledgement_create_policy}
use Rattle.wr_relationship.specs.CreateRelationship.{cost_create_relationship, refusal_create_relationship, after_create_relationship, acknowledgement_create_relationship}
use Rattle.wr_source.specs.CreateDocumentFromSource.{cost_create_document_from_source, refusal_create_document_from_source, after_create_document_from_source, acknowledgement_create_document_from_source}
use Rattle.wr_delete_tree.specs.DeleteTree.{cost_delete_tree, refusal_delete_tree, after_delete_tree, acknowledgement_delete_tree}
use Rattle.wr_policy.specs.ApplyPolicy.{cost_apply_policy, refusal_apply_policy, after_apply_policy, acknowledgement_apply_policy}
use Rattle.wr_policy.specs.RemovePolicy.{cost_remove_policy, refusal_remove_policy, after_remove_policy}
use Rattle.wr_bulk.specs.BulkUpdate.{cost_bulk_update, refusal_bulk_update, after_bulk_update, acknowledgement_bulk_update}
use Rattle.wr_rendition.specs.AddRendition.{cost_add_rendition, refusal_add_rendition, after_add_rendition, acknowledgement_add_rendition}
use Rattle.rd_renditions.specs.ReadRenditions.{answer_renditions}
use Rattle.rd_actions.specs.ReadActions.{answer_actions}
use Rattle.rd_relationships.specs.ReadRelationships.{answer_relationships}

-- what the user's write costs
abbrev pub cost_of : Repository → List ℕ → Write → ℕ
cost_of r u (writes.CreateFolder call) = cost_create_folder r call
cost_of r u (writes.CreateDocument call) = cost_create_document r call
cost_of r u (writes.CheckOut call) = cost_check_out r u call
cost_of r u (writes.CheckIn call) = cost_check_in call
cost_of r u (writes.SetContent call) = cost_set_content call
cost_of r u (writes.AppendContent call) = cost_append_content call
cost_of r u (writes.DeleteContent call) = cost_delete_content call
cost_of r u (writes.Move call) = cost_move call
cost_of r u (writes.AddToFolder call) = cost_add_to_folder call
cost_of r u (writes.RemoveFromFolder call) = cost_remove_from_folder call
cost_of r u (writes.Delete call) = cost_delete call
cost_of r u (writes.CancelCheckOut call) = cost_cancel call
cost_of r u (writes.Update call) = cost_update call
cost_of r u (writes.ApplyAcl call) = cost_apply_acl call
cost_of r u (writes.CreateType call) = cost_create_type call
cost_of r u (writes.UpdateType call) = cost_update_type call
cost_of r u (writes.DeleteType call) = cost_delete_type call
cost_of r u (writes.CreateItem call) = cost_create_item r call
cost_of r u (writes.CreatePolicy call) = cost_create_policy r call
cost_of r u (writes.CreateRelationship call) = cost_create_relationship r call
cost_of r u (writes.CreateDocumentFromSource call) = cost_create_document_from_source r u call
cost_of r u (writes.DeleteTree call) = cost_delete_tree call
cost_of r u (writes.ApplyPolicy call) = cost_apply_policy call
cost_of r u (writes.RemovePolicy call) = cost_remove_policy call
cost_of r u (writes.BulkUpdate call) = cost_bulk_update call
cost_of r u (writes.AddRendition call) = cost_add_rendition call

-- the first cause that refuses the user's write at the moment, or none
abbrev pub refusal_of : Repository → List ℕ → Moment → Write → Judged (Unit {0})
refusal_of r u m (writes.CreateFolder call) = refusal_create_folder r u m (cost_create_folder r call) call
refusal_of r u m (writes.CreateDocument call) = refusal_create_document r u (cost_create_document r call) call
refusal_of r u m (writes.CheckOut call) = refusal_check_out r u (cost_check_out r u call) call
refusal_of r u m (writes.CheckIn call) = refusal_check_in r u (cost_check_in call) call
refusal_of r u m (writes.SetContent call) = refusal_set_content r u m (cost_set_content call) call
refusal_of r u m (writes.AppendContent call) = refusal_append_content r u m (cost_append_content call) call
refusal_of r u m (writes.DeleteContent call) = refusal_delete_content r u m (cost_delete_content call) call
refusal_of r u m (writes.Move call) = refusal_move r u (cost_move call) call
refusal_of r u m (writes.AddToFolder call) = refusal_add_to_folder r u (cost_add_to_folder call) call
refusal_of r u m (writes.RemoveFromFolder call) = refusal_remove_from_folder r u (cost_remove_from_folder call) call
refusal_of r u m (writes.Delete call) = refusal_delete r u m (cost_delete call) call
refusal_of r u m (writes.CancelCheckOut call) = refusal_cancel r u (cost_cancel call) call
refusal_of r u m (writes.Update call) = refusal_update r u m (cost_update call) call
refusal_of r u m (writes.ApplyAcl call) = refusal_apply_acl r u (cost_apply_acl call) call
refusal_of r u m (writes.CreateType call) = refusal_create_type r u (cost_create_type call) call
refusal_of r u m (writes.UpdateType call) = refusal_update_type r u (cost_update_type call) call
refusal_of r u m (writes.DeleteType call) = refusal_delete_type r u (cost_delete_type call) call
refusal_of r u m (writes.CreateItem call) = refusal_create_item r u (cost_create_item r call) call
refusal_of r u m (writes.CreatePolicy call) = refusal_create_policy r u (cost_create_policy r call) call
refusal_of r u m (writes.CreateRelationship call) = refusal_create_relationship r u (cost_create_relationship r call) call
refusal_of r u m (writes.CreateDocumentFromSource call) = refusal_create_document_from_source r u (cost_create_document_from_source r u call) call
refusal_of r u m (writes.DeleteTree call) = refusal_delete_tree r u (cost_delete_tree call) call
refusal_of r u m (writes.ApplyPolicy call) = refusal_apply_policy r u (cost_apply_policy call) call
refusal_of r u m (writes.RemovePolicy call) = refusal_remove_policy r u (cost_remove_policy call) call
refusal_of r u m (writes.BulkUpdate call) = refusal_bulk_update r u (cost_bulk_update call)
refusal_of r u m (writes.AddRendition call) = refusal_add_rendition r u (cost_add_rendition call) call

-- the repository after the write, where it is not refused
abbrev pub after : Repository → List ℕ → Moment → Write → Repository
after r u m (writes.CreateFolder call) = after_create_folder r u m (cost_create_folder r call) call
after r u m (writes.CreateDocument call) = after_create_document r u m (cost_create_document r call) call
after r u m (writes.CheckOut call) = after_check_out r u m (cost_check_out r u call) call
after r u m (writes.CheckIn call) = after_check_in r u m (cost_check_in call) call
after r u m (writes.SetContent call) = after_set_content r u m (cost_set_content call) call
after r u m (writes.AppendContent call) = after_append_content r u m (cost_append_content call) call
after r u m (writes.DeleteContent call) = after_delete_content r u m (cost_delete_content call) call
after r u m (writes.Move call) = after_move r u m (cost_move call) call
after r u m (writes.AddToFolder call) = after_add_to_folder r u m (cost_add_to_folder call) call
after r u m (writes.RemoveFromFolder call) = after_remove_from_folder r u m (cost_remove_from_folder call) call
after r u m (writes.Delete call) = after_delete r u m (cost_delete call) call
after r u m (writes.CancelCheckOut call) = after_cancel r u m (cost_cancel call) call
after r u m (writes.Update call) = after_update r u m (cost_update call) call
after r u m (writes.ApplyAcl call) = after_apply_acl r u m (cost_apply_acl call) call
after r u m (writes.CreateType call) = after_create_type r u m (cost_create_type call) call
after r u m (writes.UpdateType call) = after_update_type r u m (cost_update_type call) call
after r u m (writes.DeleteType call) = after_delete_type r u m (cost_delete_type call) call
after r u m (writes.CreateItem call) = after_create_item r u m (cost_create_item r call) call
after r u m (writes.CreatePolicy call) = after_create_policy r u m (cost_create_policy r call) call
after r u m (writes.CreateRelationship call) = after_create_relationship r u m (cost_create_relationship r call) call
after r u m (writes.CreateDocumentFromSource call) = after_create_document_from_source r u m (cost_create_document_from_source r u call) call
after r u m (writes.DeleteTree call) = after_delete_tree r u m (cost_delete_tree call) call
after r u m (writes.ApplyPolicy call) = after_apply_policy r u m (cost_apply_policy call) call
after r u m (writes.RemovePolicy call) = after_remove_policy r u m (cost_remove_policy call) call
after r u m (writes.BulkUpdate call) = after_bulk_update r u m (cost_bulk_update call) call
after r u m (writes.AddRendition call) = after_add_rendition r u m (cost_add_rendition call) call

-- what the write is answered, where it is not refused
abbrev pub acknowledgement : Repository → List ℕ → Moment → Write → Reply
acknowledgement r u m (writes.CreateFolder call) = replies.Object (acknowledgement_create_folder r u m (cost_create_folder r call) call)
acknowledgement r u m (writes.CreateDocument call) = replies.Object (acknowledgement_create_document r u m (cost_create_document r call) call)
acknowledgement r u m (writes.CheckOut call) = replies.Object (acknowledgement_check_out r u m (cost_check_out r u call) call)
acknowledgement r u m (writes.CheckIn call) = replies.Object (acknowledgement_check_in r u m (cost_check_in call) call)
acknowledgement r u m (writes.SetContent call) = replies.Object (acknowledgement_set_content r u m (cost_set_content call) call)
acknowledgement r u m (writes.AppendContent call) = replies.Object (acknowledgement_append_content r u m (cost_append_content call) call)
acknowledgement r u m (writes.DeleteContent call) = replies.Object (acknowledgement_delete_content r u m (cost_delete_content call) call)
acknowledgement r u m (writes.Move call) = replies.Object (acknowledgement_move r u m (cost_move call) call)
acknowledgement r u m (writes.AddToFolder call) = replies.Object (acknowledgement_add_to_folder r u m (cost_add_to_folder call) call)
acknowledgement r u m (writes.RemoveFromFolder call) = replies.Object (acknowledgement_remove_from_folder r u m (cost_remove_from_folder call) call)
acknowledgement r u m (writes.Delete call) = replies.Nothing
acknowledgement r u m (writes.CancelCheckOut call) = replies.Nothing
acknowledgement r u m (writes.Update call) = replies.Object (acknowledgement_update r u m (cost_update call) call)
acknowledgement r u m (writes.ApplyAcl call) = replies.Acl (acknowledgement_apply_acl r u m (cost_apply_acl call) call)
acknowledgement r u m (writes.CreateType call) = replies.Type (acknowledgement_create_type r u m (cost_create_type call) call)
acknowledgement r u m (writes.UpdateType call) = replies.Type (acknowledgement_update_type r u m (cost_update_type call) call)
acknowledgement r u m (writes.DeleteType call) = replies.Nothing
acknowledgement r u m (writes.CreateItem call) = replies.Object (acknowledgement_create_item r u m (cost_create_item r call) call)
acknowledgement r u m (writes.CreatePolicy call) = replies.Object (acknowledgement_create_policy r u m (cost_create_policy r call) call)
acknowledgement r u m (writes.CreateRelationship call) = replies.Object (acknowledgement_create_relationship r u m (cost_create_relationship r call) call)
acknowledgement r u m (writes.CreateDocumentFromSource call) = replies.Object (acknowledgement_create_document_from_source r u m (cost_create_document_from_source r u call) call)
acknowledgement r u m (writes.DeleteTree call) = replies.DeleteTree (acknowledgement_delete_tree r u m (cost_delete_tree call) call)
acknowledgement r u m (writes.ApplyPolicy call) = replies.Object (acknowledgement_apply_policy r u m (cost_apply_policy call) call)
acknowledgement r u m (writes.RemovePolicy call) = replies.Nothing
acknowledgement r u m (writes.BulkUpdate call) = replies.Updated (acknowledgement_bulk_update r u m (cost_bulk_update call) call)
acknowledgement r u m (writes.AddRendition call) = replies.Object (acknowledgement_add_rendition r u m (cost_add_rendition call) call)

-- a reading without a selector is answered by the kind of what is addressed (CMIS 1.1, section 5.4.2.3)
abbrev pub default_of : Repository → List ℕ → ShowDefault → Object → Judged Reply
default_of r u q x =
    let asked = q.children.children in
    if is_a r bases.Folder x then (answer_show_children r u q.children >>= λ reply. Ok (replies.Children reply))
    else if is_a r bases.Document x then (answer_stream r u asked.place q.stream >>= λ reply. Ok (replies.Content reply))
    else (answer_included r u asked.place asked.filter asked.succinct q.children.includes >>= λ reply. Ok (replies.Included reply))

abbrev pub answer_default : Repository → List ℕ → ShowDefault → Judged Reply
answer_default r u q = find_or causes.NotFound (addressed r u q.children.children.place) >>= default_of r u q

-- what the user's question is answered
abbrev pub answer_of : Repository → List ℕ → Question → Judged Reply
answer_of r u (questions.Object q) = answer_show_object r u q >>= λ reply. Ok (replies.Included reply)
answer_of r u (questions.Properties q) = answer_show_properties r u q >>= λ reply. Ok (replies.Properties reply)
answer_of r u (questions.Children q) = answer_show_children r u q >>= λ reply. Ok (replies.Children reply)
answer_of r u (questions.Content q) = answer_content r u q >>= λ reply. Ok (replies.Content reply)
answer_of r u (questions.Default q) = answer_default r u q
answer_of r u (questions.TypeDefinition q) = answer_type_definition r u q >>= λ reply. Ok (replies.Type reply)
answer_of r u (questions.TypeChildren q) = answer_type_children r u q >>= λ reply. Ok (replies.Types reply)
answer_of r u (questions.TypeDescendants q) = answer_type_descendants r u q >>= λ reply. Ok (replies.TypeTree reply)
answer_of r u (questions.Info q) = answer_info r u q >>= λ reply. Ok (replies.Info reply)
answer_of r u (questions.Versions q) = answer_show_versions r u q >>= λ reply. Ok (replies.IncludedObjects reply)
answer_of r u (questions.Parent q) = answer_parent r u q >>= λ reply. Ok (replies.Object reply)
answer_of r u (questions.Parents q) = answer_show_parents r u q >>= λ reply. Ok (replies.Parents reply)
answer_of r u (questions.Policies q) = answer_policies r u q >>= λ reply. Ok (replies.Objects reply)
answer_of r u (questions.Acl q) = answer_acl r u q >>= λ reply. Ok (replies.Acl reply)
answer_of r u (questions.Query q) = answer_query r u q >>= λ reply. Ok (replies.Query reply)
answer_of r u (questions.Tree q) = answer_tree r u q >>= λ reply. Ok (replies.Tree reply)
answer_of r u (questions.CheckedOut q) = answer_checked_out r u q >>= λ reply. Ok (replies.Page reply)
answer_of r u (questions.Changes q) = answer_changes r u q >>= λ reply. Ok (replies.Changes reply)
answer_of r u (questions.Renditions q) = answer_renditions r u q >>= λ reply. Ok (replies.Renditions reply)
answer_of r u (questions.Actions q) = answer_actions r u q >>= λ reply. Ok (replies.Actions reply)
answer_of r u (questions.Relationships q) = answer_relationships r u q >>= λ reply. Ok (replies.Page reply)

-- the step of an entry: the cause that refuses it, or the repository after it and its answer
abbrev pub step_of : Repository → Entry Write → Result (Repository × Reply) Cause
step_of r e =
    refusal_of r e.user e.moment e.call
    >> Ok (after r e.user e.moment e.call, acknowledgement r e.user e.moment e.call)
