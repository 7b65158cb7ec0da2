-- Each write keeps what is well formed, and so does each step.
use Rattle.std.specs.Prelude.{◌≡◌, ℕ, List, Ok}
use Rattle.std.proofs.Common.{subst}
use Rattle.cm_base.specs.declared.number.Moment.{Moment}
use Rattle.cm_call.specs.declared.reply.Reply.{Reply}
use Rattle.cm_call.specs.declared.write.Write.{Write}
use Rattle.cm_call.specs.declared.write.Write.TheVariants as writes
use Rattle.cmis_spec.specs.Repository.{Repository}
use Rattle.cmis_spec.specs.Well.{IsWellFormed}
use Rattle.desk_model.specs.declared.entry.Entry.{Entry}
use Rattle.wr_object.specs.CreateFolder.{cost_create_folder}
use Rattle.wr_object.specs.CreateDocument.{cost_create_document}
use Rattle.wr_object.proofs.CreateFolder.{keeps_create_folder}
use Rattle.wr_object.proofs.CreatedDocument.{keeps_create_document}
use Rattle.wr_version.specs.CheckOut.{cost_check_out}
use Rattle.wr_version.specs.CheckIn.{cost_check_in}
use Rattle.wr_version.proofs.CheckOut.{keeps_check_out}
use Rattle.wr_version.proofs.CheckIn.{keeps_check_in}
use Rattle.wr_content.specs.SetContent.{cost_set_content}
use Rattle.wr_content.specs.AppendContent.{cost_append_content}
use Rattle.wr_content.specs.DeleteContent.{cost_delete_content}
use Rattle.wr_filing.specs.MoveObject.{cost_move}
use Rattle.wr_filing.specs.AddToFolder.{cost_add_to_folder}
use Rattle.wr_filing.specs.RemoveFromFolder.{cost_remove_from_folder}
use Rattle.wr_filing.proofs.Moving.{keeps_move}
use Rattle.wr_filing.proofs.Adding.{keeps_add}
use Rattle.wr_filing.proofs.Removing.{keeps_removal}
use Rattle.wr_remove.specs.Delete.{cost_delete}
use Rattle.wr_remove.specs.CancelCheckOut.{cost_cancel}
use Rattle.wr_remove.proofs.Deleted.{keeps_delete}
use Rattle.wr_remove.proofs.Cancelled.{keeps_cancel}
use Rattle.wr_change.specs.Update.{cost_update}
use Rattle.wr_access.specs.ApplyAcl.{cost_apply_acl}
use Rattle.wr_types.specs.CreateType.{cost_create_type}
use Rattle.wr_types.specs.UpdateType.{cost_update_type}
use Rattle.wr_types.specs.DeleteType.{cost_delete_type}
use Rattle.wr_types.proofs.Making.{well_after as keeps_create_type}
use Rattle.wr_types.proofs.Changing.{well_after as keeps_update_type}
use Rattle.wr_types.proofs.Removing.{well_after as keeps_delete_type}
use Rattle.wr_create.specs.CreateItem.{cost_create_item}
use Rattle.wr_create.specs.CreatePolicy.{cost_create_policy}
use Rattle.wr_create.proofs.Items.{keeps_create_item}
use Rattle.wr_create.proofs.Policies.{keeps_create_policy}
use Rattle.wr_relationship.specs.CreateRelationship.{cost_create_relationship, with_name}
use Rattle.wr_relationship.proofs.Relationships.{passes, relationship_keeps}
use Rattle.wr_source.specs.CreateDocumentFromSource.{cost_create_document_from_source}
use Rattle.wr_source.proofs.Created.{keeps_create_document_from_source}
use Rattle.wr_delete_tree.specs.DeleteTree.{cost_delete_tree}
use Rattle.wr_policy.specs.ApplyPolicy.{cost_apply_policy}
use Rattle.wr_policy.specs.RemovePolicy.{cost_remove_policy}
use Rattle.wr_policy.proofs.Applying.{keeps_apply}
use Rattle.wr_policy.proofs.Removing.{keeps_remove}
use Rattle.wr_bulk.specs.BulkUpdate.{cost_bulk_update}
use Rattle.wr_rendition.specs.AddRendition.{cost_add_rendition}
use Rattle.cm_repo.specs.Calls.{acknowledgement, after, refusal_of, step_of}
use Rattle.write_laws.proofs.Contents.{keeps_add_rendition, keeps_append_content, keeps_delete_content, keeps_set_content}
use Rattle.write_laws.proofs.Ordered.{new_ordered}
use Rattle.write_laws.proofs.Passing.{done_is}
use Rattle.write_laws.proofs.Trees.{keeps_delete_tree}
use Rattle.write_laws.proofs.Updates.{keeps_apply_acl, keeps_bulk_update, keeps_update}

pub write_keeps : (r : Repository) (u : List ℕ) (m : Moment) (call : Write) → IsWellFormed r → refusal_of r u m call ≡ Ok tt → IsWellFormed (after r u m call)
write_keeps r u m (writes.CreateFolder call) w h = keeps_create_folder r u m (cost_create_folder r call) call w h (new_ordered u call.remove call.add)
write_keeps r u m (writes.CreateDocument call) w h = keeps_create_document r u m (cost_create_document r call) call w h (new_ordered u call.remove call.add)
write_keeps r u m (writes.CheckOut call) w h = keeps_check_out r u m (cost_check_out r u call) call w h
write_keeps r u m (writes.CheckIn call) w h = keeps_check_in r u m (cost_check_in call) call w h
write_keeps r u m (writes.SetContent call) w h = keeps_set_content r u m (cost_set_content call) w call h
write_keeps r u m (writes.AppendContent call) w h = keeps_append_content r u m (cost_append_content call) w call h
write_keeps r u m (writes.DeleteContent call) w h = keeps_delete_content r u m (cost_delete_content call) w call h
write_keeps r u m (writes.Move call) w h = keeps_move r u m (cost_move call) call w h
write_keeps r u m (writes.AddToFolder call) w h = keeps_add r u m (cost_add_to_folder call) call w h
write_keeps r u m (writes.RemoveFromFolder call) w h = keeps_removal r u m (cost_remove_from_folder call) call w h
write_keeps r u m (writes.Delete call) w h = keeps_delete r u m (cost_delete call) call w h
write_keeps r u m (writes.CancelCheckOut call) w h = keeps_cancel r u m (cost_cancel call) call w h
write_keeps r u m (writes.Update call) w h = keeps_update r u m (cost_update call) call w h
write_keeps r u m (writes.ApplyAcl call) w h = keeps_apply_acl r u m (cost_apply_acl call) call w h
write_keeps r u m (writes.CreateType call) w h = keeps_create_type r u (cost_create_type call) call w h
write_keeps r u m (writes.UpdateType call) w h = keeps_update_type r u (cost_update_type call) call w h
write_keeps r u m (writes.DeleteType call) w h = keeps_delete_type r u (cost_delete_type call) call w h
write_keeps r u m (writes.CreateItem call) w h = keeps_create_item r u m (cost_create_item r call) call w h (new_ordered u call.object.remove call.object.add)
write_keeps r u m (writes.CreatePolicy call) w h = keeps_create_policy r u m (cost_create_policy r call) call w h (new_ordered u call.object.remove call.object.add)
write_keeps r u m (writes.CreateRelationship call) w h =
    let named = with_name call in
    let cost = cost_create_relationship r call in
    relationship_keeps r u m cost named w (passes r u cost named h) (new_ordered u named.object.remove named.object.add)
write_keeps r u m (writes.CreateDocumentFromSource call) w h =
    keeps_create_document_from_source r u m (cost_create_document_from_source r u call) call w h (new_ordered u call.document.remove call.document.add)
write_keeps r u m (writes.DeleteTree call) w h = keeps_delete_tree r u m (cost_delete_tree call) call w h
write_keeps r u m (writes.ApplyPolicy call) w h = keeps_apply r u m (cost_apply_policy call) call w h
write_keeps r u m (writes.RemovePolicy call) w h = keeps_remove r u m (cost_remove_policy call) call w h
write_keeps r u m (writes.BulkUpdate call) w h = keeps_bulk_update r u m (cost_bulk_update call) call w h
write_keeps r u m (writes.AddRendition call) w h = keeps_add_rendition r u m (cost_add_rendition call) w call h

pub step_well : (r : Repository) (e : Entry Write) (x : Repository × Reply) → IsWellFormed r → step_of r e ≡ Ok x → IsWellFormed x.0
step_well r e x w h =
    let d = done_is (refusal_of r e.user e.moment e.call) (after r e.user e.moment e.call, acknowledgement r e.user e.moment e.call) x h in
    subst (λ (y : Repository × Reply). IsWellFormed y.0) d.1 (write_keeps r e.user e.moment e.call w d.0)
