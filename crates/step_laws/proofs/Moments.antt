-- Why a write is refused, at another moment.
use Rattle.std.specs.Prelude.{ℕ, List}
use Rattle.cm_base.specs.declared.number.Moment.{Moment}
use Rattle.cm_call.specs.declared.write.Write.{Write}
use Rattle.cm_call.specs.declared.write.Write.TheVariants as writes
use Rattle.cm_repo.specs.Calls.{refusal_of}
use Rattle.cmis_spec.specs.Repository.{Repository}
use Rattle.wr_change.specs.Update.{cost_update}
use Rattle.wr_content.specs.AppendContent.{cost_append_content}
use Rattle.wr_content.specs.DeleteContent.{cost_delete_content}
use Rattle.wr_content.specs.SetContent.{cost_set_content}
use Rattle.wr_remove.specs.Delete.{cost_delete}
use Rattle.write_laws.proofs.Moments.{IsSteady, same_line, steady_append, steady_delete, steady_rid, steady_set, steady_update}

pub steady : (r : Repository) (u : List ℕ) (m n : Moment) (call : Write) → IsSteady (refusal_of r u m call) (refusal_of r u n call)
steady r u m n (writes.SetContent call) = steady_set r u (cost_set_content call) m n call
steady r u m n (writes.AppendContent call) = steady_append r u (cost_append_content call) m n call
steady r u m n (writes.DeleteContent call) = steady_rid r u (cost_delete_content call) m n call
steady r u m n (writes.Delete call) = steady_delete r u (cost_delete call) m n call
steady r u m n (writes.Update call) = steady_update r u (cost_update call) m n call
steady r u m n (writes.CreateFolder call) = same_line (refusal_of r u m (writes.CreateFolder call))
steady r u m n (writes.CreateDocument call) = same_line (refusal_of r u m (writes.CreateDocument call))
steady r u m n (writes.CheckOut call) = same_line (refusal_of r u m (writes.CheckOut call))
steady r u m n (writes.CheckIn call) = same_line (refusal_of r u m (writes.CheckIn call))
steady r u m n (writes.Move call) = same_line (refusal_of r u m (writes.Move call))
steady r u m n (writes.AddToFolder call) = same_line (refusal_of r u m (writes.AddToFolder call))
steady r u m n (writes.RemoveFromFolder call) = same_line (refusal_of r u m (writes.RemoveFromFolder call))
steady r u m n (writes.CancelCheckOut call) = same_line (refusal_of r u m (writes.CancelCheckOut call))
steady r u m n (writes.ApplyAcl call) = same_line (refusal_of r u m (writes.ApplyAcl call))
steady r u m n (writes.CreateType call) = same_line (refusal_of r u m (writes.CreateType call))
steady r u m n (writes.UpdateType call) = same_line (refusal_of r u m (writes.UpdateType call))
steady r u m n (writes.DeleteType call) = same_line (refusal_of r u m (writes.DeleteType call))
steady r u m n (writes.CreateItem call) = same_line (refusal_of r u m (writes.CreateItem call))
steady r u m n (writes.CreatePolicy call) = same_line (refusal_of r u m (writes.CreatePolicy call))
steady r u m n (writes.CreateRelationship call) = same_line (refusal_of r u m (writes.CreateRelationship call))
steady r u m n (writes.CreateDocumentFromSource call) = same_line (refusal_of r u m (writes.CreateDocumentFromSource call))
steady r u m n (writes.DeleteTree call) = same_line (refusal_of r u m (writes.DeleteTree call))
steady r u m n (writes.ApplyPolicy call) = same_line (refusal_of r u m (writes.ApplyPolicy call))
steady r u m n (writes.RemovePolicy call) = same_line (refusal_of r u m (writes.RemovePolicy call))
steady r u m n (writes.BulkUpdate call) = same_line (refusal_of r u m (writes.BulkUpdate call))
steady r u m n (writes.AddRendition call) = same_line (refusal_of r u m (writes.AddRendition call))
