-- What a request asks, or the first cause why it asks nothing: the method, the address, the form, the action or selector, the step
-- field, and then the arguments of the call in their order.
use Rattle.std.specs.Prelude.{Ok}
use Rattle.cm_base.specs.Judged.{Judged, ◌>>=◌}
use Rattle.cm_call.specs.declared.write.Write.{Write}
use Rattle.cm_call.specs.declared.write.Write.TheVariants as writes
use Rattle.cm_call.specs.declared.question.Question.{Question}
use Rattle.cm_call.specs.declared.question.Question.TheVariants as questions
use Rattle.http_grammar.specs.Request.{Request}
use Rattle.http_caller.specs.Steps.{least_of}
use Rattle.request_target.specs.Targets.{target_of, query_of}
use Rattle.cm_base.specs.declared.asked.Asked.{Asked}
use Rattle.cm_base.specs.declared.asked.Asked.TheVariants as asks
use Rattle.bind_words.specs.declared.words.Service.{Service}
use Rattle.bind_words.specs.declared.words.Service.TheVariants as services
use Rattle.bind_parts.specs.declared.asking.Asking.{Asking}
use Rattle.bind_parts.specs.Askings.{with_query, host_of}
use Rattle.bind_form.specs.Forms.{method_of, form_of}
use Rattle.bind_words.specs.Words.{service_of}
use Rattle.bind_writes.specs.CreateFolder.{create_folder_of}
use Rattle.bind_readings.specs.Objects.{show_object_of, show_properties_of}
use Rattle.bind_readings.specs.Children.{show_children_of, show_default_of}
use Rattle.bind_readings.specs.Lists.{show_parents_of, show_versions_of}
use Rattle.bind_writes.specs.Documents.{create_document_of, check_out_of, check_in_of, delete_of, cancel_check_out_of}
use Rattle.bind_readings.specs.Documents.{content_of}
use Rattle.bind_readings.specs.Types.{type_definition_of, type_children_of, type_descendants_of, info_of}
use Rattle.bind_writes.specs.Content.{set_content_of, append_content_of, delete_content_of}
use Rattle.bind_readings.specs.Access.{parent_of, policies_of, acl_of}
use Rattle.bind_writes.specs.Filing.{move_of, add_to_folder_of, remove_from_folder_of}
use Rattle.bind_readings.specs.Query.{query_of as query_asked}
use Rattle.bind_writes.specs.Update.{update_of}
use Rattle.bind_writes.specs.Acl.{apply_acl_of}
use Rattle.bind_readings.specs.Trees.{descendants_of, folder_tree_of, checked_out_of}
use Rattle.bind_readings.specs.Log.{changes_of}
use Rattle.bind_writes.specs.TypeChange.{create_type_of, update_type_of, delete_type_of}
use Rattle.bind_writes.specs.Create.{create_item_of, create_policy_of, create_relationship_of}
use Rattle.bind_writes.specs.Source.{create_document_from_source_of}
use Rattle.bind_writes.specs.DeleteTree.{delete_tree_of}
use Rattle.bind_writes.specs.Policy.{apply_policy_of, remove_policy_of}
use Rattle.bind_writes.specs.Bulk.{bulk_update_of}
use Rattle.bind_writes.specs.Rendition.{add_rendition_of}
use Rattle.bind_readings.specs.Renditions.{renditions_of}
use Rattle.bind_readings.specs.Actions.{actions_of}
use Rattle.bind_readings.specs.Relationships.{relationships_of}

-- the arguments of each service
abbrev pub bound : Service → Asking → Judged (Asked Write Question)
bound services.CreateFolder asking = create_folder_of asking >>= λ call. Ok (asks.Write (writes.CreateFolder call))
bound services.CreateDocument asking = create_document_of asking >>= λ call. Ok (asks.Write (writes.CreateDocument call))
bound services.CheckOut asking = check_out_of asking >>= λ call. Ok (asks.Write (writes.CheckOut call))
bound services.CheckIn asking = check_in_of asking >>= λ call. Ok (asks.Write (writes.CheckIn call))
bound services.Object asking = show_object_of asking >>= λ question. Ok (asks.Question (questions.Object question))
bound services.Properties asking = show_properties_of asking >>= λ question. Ok (asks.Question (questions.Properties question))
bound services.Children asking = show_children_of asking >>= λ question. Ok (asks.Question (questions.Children question))
bound services.Content asking = content_of asking >>= λ question. Ok (asks.Question (questions.Content question))
bound services.TypeDefinition asking = type_definition_of asking >>= λ question. Ok (asks.Question (questions.TypeDefinition question))
bound services.TypeChildren asking = type_children_of asking >>= λ question. Ok (asks.Question (questions.TypeChildren question))
bound services.TypeDescendants asking = type_descendants_of asking >>= λ question. Ok (asks.Question (questions.TypeDescendants question))
bound services.Info asking = info_of asking >>= λ question. Ok (asks.Question (questions.Info question))
bound services.SetContent asking = set_content_of asking >>= λ call. Ok (asks.Write (writes.SetContent call))
bound services.AppendContent asking = append_content_of asking >>= λ call. Ok (asks.Write (writes.AppendContent call))
bound services.DeleteContent asking = delete_content_of asking >>= λ call. Ok (asks.Write (writes.DeleteContent call))
bound services.Versions asking = show_versions_of asking >>= λ question. Ok (asks.Question (questions.Versions question))
bound services.Parent asking = parent_of asking >>= λ question. Ok (asks.Question (questions.Parent question))
bound services.Parents asking = show_parents_of asking >>= λ question. Ok (asks.Question (questions.Parents question))
bound services.Move asking = move_of asking >>= λ call. Ok (asks.Write (writes.Move call))
bound services.AddToFolder asking = add_to_folder_of asking >>= λ call. Ok (asks.Write (writes.AddToFolder call))
bound services.RemoveFromFolder asking = remove_from_folder_of asking >>= λ call. Ok (asks.Write (writes.RemoveFromFolder call))
bound services.Policies asking = policies_of asking >>= λ question. Ok (asks.Question (questions.Policies question))
bound services.Acl asking = acl_of asking >>= λ question. Ok (asks.Question (questions.Acl question))
bound services.Query asking = query_asked asking >>= λ question. Ok (asks.Question (questions.Query question))
bound services.Delete asking = delete_of asking >>= λ call. Ok (asks.Write (writes.Delete call))
bound services.CancelCheckOut asking = cancel_check_out_of asking >>= λ call. Ok (asks.Write (writes.CancelCheckOut call))
bound services.Update asking = update_of asking >>= λ call. Ok (asks.Write (writes.Update call))
bound services.ApplyAcl asking = apply_acl_of asking >>= λ call. Ok (asks.Write (writes.ApplyAcl call))
bound services.Descendants asking = descendants_of asking >>= λ question. Ok (asks.Question (questions.Tree question))
bound services.FolderTree asking = folder_tree_of asking >>= λ question. Ok (asks.Question (questions.Tree question))
bound services.CheckedOut asking = checked_out_of asking >>= λ question. Ok (asks.Question (questions.CheckedOut question))
bound services.Changes asking = changes_of asking >>= λ question. Ok (asks.Question (questions.Changes question))
bound services.CreateType asking = create_type_of asking >>= λ call. Ok (asks.Write (writes.CreateType call))
bound services.UpdateType asking = update_type_of asking >>= λ call. Ok (asks.Write (writes.UpdateType call))
bound services.DeleteType asking = delete_type_of asking >>= λ call. Ok (asks.Write (writes.DeleteType call))
bound services.CreateItem asking = create_item_of asking >>= λ call. Ok (asks.Write (writes.CreateItem call))
bound services.CreatePolicy asking = create_policy_of asking >>= λ call. Ok (asks.Write (writes.CreatePolicy call))
bound services.CreateRelationship asking = create_relationship_of asking >>= λ call. Ok (asks.Write (writes.CreateRelationship call))
bound services.CreateDocumentFromSource asking = create_document_from_source_of asking >>= λ call. Ok (asks.Write (writes.CreateDocumentFromSource call))
bound services.DeleteTree asking = delete_tree_of asking >>= λ call. Ok (asks.Write (writes.DeleteTree call))
bound services.ApplyPolicy asking = apply_policy_of asking >>= λ call. Ok (asks.Write (writes.ApplyPolicy call))
bound services.RemovePolicy asking = remove_policy_of asking >>= λ call. Ok (asks.Write (writes.RemovePolicy call))
bound services.BulkUpdate asking = bulk_update_of asking >>= λ call. Ok (asks.Write (writes.BulkUpdate call))
bound services.AddRendition asking = add_rendition_of asking >>= λ call. Ok (asks.Write (writes.AddRendition call))
bound services.Renditions asking = renditions_of asking >>= λ question. Ok (asks.Question (questions.Renditions question))
bound services.Actions asking = actions_of asking >>= λ question. Ok (asks.Question (questions.Actions question))
bound services.Relationships asking = relationships_of asking >>= λ question. Ok (asks.Question (questions.Relationships question))
bound services.Default asking = show_default_of asking >>= λ question. Ok (asks.Question (questions.Default question))

-- what a request asks, in the order in which its causes come
abbrev pub call_of_request : Request → Judged (Asked Write Question)
call_of_request q = do
  method ← method_of q.head.method
  target ← target_of q.head.target
  parts ← form_of method q
  service ← service_of method target (with_query parts (query_of q.head.target)).pairs
  step ← least_of q.head
  bound service (record { address = target; form = with_query parts (query_of q.head.target); host = host_of q.head })
