-- No write changes the users or the groups.
use Rattle.std.specs.Prelude.{ℕ, Bool, true, false, ◌||◌, if◌then◌else◌, not, List, [], ◌∷◌, filter, fold, Option, Some, None, IfSome, is_none, is_some, option_map}
use Rattle.std.proofs.Common.{refl}
use Rattle.cm_base.specs.declared.access.Ace.{Ace}
use Rattle.cm_base.specs.declared.log.ChangeKind.TheVariants as changes
use Rattle.cm_base.specs.declared.number.Moment.{Moment}
use Rattle.cm_base.specs.declared.number.Oid.{Oid}
use Rattle.cm_base.specs.declared.object.Object.{Object}
use Rattle.call_parts.specs.declared.changes.UpdateProperties.{UpdateProperties}
use Rattle.cm_call.specs.declared.write.Write.{Write}
use Rattle.cm_call.specs.declared.write.Write.TheVariants as writes
use Rattle.cm_see.specs.Addressed.{addressed}
use Rattle.cm_state.specs.Looks.{content_at, folders_in, is_applied}
use Rattle.cmis_spec.specs.Repository.{Repository, same, entry_of, parent_in}
use Rattle.cmis_spec.specs.Access.{read_named}
use Rattle.cmis_spec.specs.Changes.{stepped, noted, moved, with_object}
use Rattle.cmis_spec.specs.Documents.{is_working_copy, with_contents, with_copy, with_document, with_policies, with_version}
use Rattle.cmis_spec.specs.Removal.{among, deleted}
use Rattle.delete_tree_parts.specs.declared.writes.DeleteTree.{DeleteTree}
use Rattle.bulk_parts.specs.declared.writes.BulkUpdate.{BulkUpdate}
use Rattle.bulk_parts.specs.declared.writes.ObjectIdAndChangeToken.{ObjectIdAndChangeToken}
use Rattle.bulk_parts.specs.declared.replies.UpdatedObject.{UpdatedObject}
use Rattle.wr_rules.specs.Documents.{name_after}
use Rattle.wr_rules.specs.Rules.{new_aces, policies_in}
use Rattle.wr_object.specs.declared.new_document.NewDocument.{NewDocument}
use Rattle.wr_object.specs.CreateDocument.{filed_at, made_of_parts}
use Rattle.wr_create.specs.declared.making.NewObject.{NewObject}
use Rattle.wr_create.specs.Making.{after_making}
use Rattle.wr_create.specs.CreateItem.{cost_create_item, item_made}
use Rattle.wr_create.specs.CreatePolicy.{cost_create_policy, policy_made}
use Rattle.wr_relationship.specs.CreateRelationship.{cost_create_relationship, relationship_of, with_name}
use Rattle.wr_source.specs.CreateDocumentFromSource as sources
use Rattle.wr_object.specs.CreateDocument as documents
use Rattle.wr_version.specs.CheckOut.{cost_check_out, after_check_out_of, new_content, new_copy}
use Rattle.wr_version.specs.CheckIn.{cost_check_in, after_check_in_of, given_content, new_label, new_version}
use Rattle.wr_content.specs.SetContent.{cost_set_content, after_set_content_of}
use Rattle.wr_content.specs.AppendContent.{cost_append_content, after_append_content_of}
use Rattle.wr_content.specs.Changed.{changed_by as document_changed, cleared}
use Rattle.wr_content.specs.DeleteContent.{cost_delete_content, after_delete_content_of}
use Rattle.wr_filing.specs.Filing.{changed_by, folder_named, is_filed_anywhere, out_of, unfiled}
use Rattle.wr_filing.specs.MoveObject.{cost_move, after_move_of}
use Rattle.wr_filing.specs.AddToFolder.{cost_add_to_folder, after_add_to_folder_of}
use Rattle.wr_filing.specs.RemoveFromFolder.{cost_remove_from_folder, after_remove_from_folder_of, removed_by}
use Rattle.wr_remove.specs.Delete.{cost_delete, after_delete_of}
use Rattle.wr_remove.specs.CancelCheckOut.{cost_cancel, after_cancel_of}
use Rattle.wr_change.specs.Update.{cost_update, changed_in, refusal_one}
use Rattle.wr_access.specs.ApplyAcl.{cost_apply_acl, after_apply_acl_of}
use Rattle.wr_rendition.specs.AddRendition.{cost_add_rendition, after_add_rendition_of}
use Rattle.wr_delete_tree.specs.declared.visit.Progress.{Progress}
use Rattle.wr_delete_tree.specs.DeleteTree.{cost_delete_tree, after_delete_tree_of, fails, is_to_go, taken_out, treated, tree_of, visit, whole}
use Rattle.wr_policy.specs.Applied.{number_or_root, without_policy}
use Rattle.wr_policy.specs.ApplyPolicy.{cost_apply_policy, after_apply_policy_of}
use Rattle.wr_policy.specs.RemovePolicy.{cost_remove_policy, after_remove_policy_of}
use Rattle.wr_bulk.specs.BulkUpdate.{cost_bulk_update, changed, is_refused, update_of, with_changed, with_object as with_one}
use Rattle.cm_repo.specs.Calls.{after}
use Rattle.people_laws.proofs.Staying.{SamePeople, joined, either, where_found, folded, contents_stay, filing_stays, name_stays}

-- ---- what is made

document_stays : (r : Repository) (new : NewDocument) (aces : List Ace) (policies : List Oid) (cost : ℕ) (m : Moment) → SamePeople r (made_of_parts r new aces policies cost m)
document_stays r new aces policies cost m =
    let made = with_policies (with_document r new.object new.series aces) new.object.id policies in
    let filled = with_contents made new.content in
    joined r filled (filed_at filled new.folder new.object.id) (contents_stay made new.content) (filing_stays filled new.folder new.object.id)

making_stays : (r : Repository) (cost : ℕ) (new : NewObject) → SamePeople r (after_making r cost new)
making_stays r cost new = filing_stays (with_object (stepped r cost) new.object new.aces new.policies) new.folder new.object.id

-- ---- what is changed

update_stays : (r : Repository) (u : List ℕ) (m : Moment) (call : UpdateProperties) (x : Object) → SamePeople r (changed_in r u m call x)
update_stays r u m call x = name_stays r (name_after r x call.properties) (is_working_copy r x) x.series

changed_stays : (r : Repository) (u : List ℕ) (m : Moment) (call : UpdateProperties) → IfSome (changed r u m call) (λ c. SamePeople r c.0)
unfolding changed
changed_stays r u m call = by_cases (is_refused (refusal_one r u m call)) (addressed r u call.place)
  where
    by_cases : (refused : Bool) (o : Option Object) → IfSome {T = Repository × Oid} (if refused then None else option_map (λ x. (changed_in r u m call x, x.id)) o) (λ c. SamePeople r c.0)
    by_cases true o = tt
    by_cases false None = tt
    by_cases false (Some x) = update_stays r u m call x

changed_one : (r : Repository) (p : Repository × List UpdatedObject) (o : Option (Repository × Oid)) → SamePeople r p.0 → IfSome o (λ c. SamePeople p.0 c.0) → SamePeople r (with_changed p o).0
changed_one r p None h k = h
changed_one r p (Some c) h k = joined r p.0 c.0 h k

bulk_stays : (r : Repository) (u : List ℕ) (m : Moment) (call : BulkUpdate) (p : Repository × List UpdatedObject) → SamePeople r p.0 → (os : List ObjectIdAndChangeToken)
    → SamePeople r (fold (with_one u m call) p os).0
bulk_stays r u m call p h os =
    folded (λ (q : Repository × List UpdatedObject). SamePeople r q.0) (with_one u m call)
    (λ q o k. changed_one r q (changed q.0 u m (update_of call o)) k (changed_stays q.0 u m (update_of call o))) p os h

-- ---- what is filed

removal_stays : (r : Repository) (m : Moment) (cost : ℕ) (x : Object) (folder : Option Oid) → SamePeople r (removed_by r m cost x folder)
removal_stays r m cost x None = either r (changed_by (unfiled r (entry_of x)) x.id m cost) (stepped r cost) (is_filed_anywhere r (entry_of x)) (refl, refl) (refl, refl)
removal_stays r m cost x (Some folder) = (refl, refl)

out_stays : (r : Repository) (n : Oid) (s : Repository) → SamePeople r s → (folders : List Oid) → SamePeople r (fold (out_of n) s folders)
out_stays r n s h folders = folded (λ (t : Repository). SamePeople r t) (out_of n) (λ t f k. k) s folders h

treated_stays : (r : Repository) (m : Moment) (call : DeleteTree) (tree : List Oid) (n : Oid) → SamePeople r (treated r m call tree n)
treated_stays r m call tree n =
    either r (deleted r m (whole r n)) (taken_out r m tree n) (is_to_go r call tree n) (refl, refl) (out_stays r n r (refl, refl) (filter (among tree) (folders_in r n)))

chosen : (r : Repository) (a b : Bool) (p q s : Progress) → SamePeople r p.state → SamePeople r q.state → SamePeople r s.state → SamePeople r (if a then p else if b then q else s).state
chosen r true b p q s h k l = h
chosen r false true p q s h k l = k
chosen r false false p q s h k l = l

visit_stays : (r : Repository) (u : List ℕ) (m : Moment) (call : DeleteTree) (tree : List Oid) (p : Progress) (n : Oid) → SamePeople r p.state → SamePeople r (visit u m call tree p n).state
visit_stays r u m call tree p n h =
    chosen r (p.ended || is_none (parent_in p.state.filed n)) (fails p.state u m call tree n)
    p (record { state = p.state; ended = not call.continue_on_failure }) (record { state = treated p.state m call tree n; ended = false })
    h h (joined r p.state (treated p.state m call tree n) h (treated_stays p.state m call tree n))

tree_stays : (r : Repository) (u : List ℕ) (m : Moment) (cost : ℕ) (call : DeleteTree) (x : Object) → SamePeople r (after_delete_tree_of r u m cost call x)
tree_stays r u m cost call x =
    let tree = tree_of r x.id in
    folded (λ (p : Progress). SamePeople r p.state) (visit u m call tree) (λ p n h. visit_stays r u m call tree p n h) (record { state = stepped r cost; ended = false }) tree (refl, refl)

-- ---- all

pub write_stays : (r : Repository) (u : List ℕ) (m : Moment) (call : Write) → SamePeople r (after r u m call)
write_stays r u m (writes.CreateFolder call) = (refl, refl)
write_stays r u m (writes.CreateDocument call) =
    document_stays r (documents.parts_made r u m call) (new_aces u call.remove call.add) (policies_in r u call.policies) (documents.cost_create_document r call) m
write_stays r u m (writes.CheckOut call) = where_found r (after_check_out_of r u m (cost_check_out r u call)) (addressed r u call.place)
    (λ x. contents_stay (with_copy r (entry_of x) (new_copy r u m x) u) (new_content r x))
write_stays r u m (writes.CheckIn call) = where_found r (after_check_in_of r u m (cost_check_in call) call) (addressed r u call.place)
    (λ x. contents_stay (with_version r (entry_of x) (new_version r u m call x) (new_label r call x) (name_after r x call.properties)) (given_content r call x))
write_stays r u m (writes.SetContent call) = where_found r (after_set_content_of r u m (cost_set_content call) call) (addressed r u call.place) (λ x. (refl, refl))
write_stays r u m (writes.AppendContent call) = where_found r (after_append_content_of r u m (cost_append_content call) call) (addressed r u call.place) (λ x. (refl, refl))
write_stays r u m (writes.DeleteContent call) =
    let cost = cost_delete_content call in
    where_found r (after_delete_content_of r u m cost) (addressed r u call.place)
    (λ x. either r (cleared r (document_changed r u m x) cost) (stepped r cost) (is_some (content_at r x.id)) (refl, refl) (refl, refl))
write_stays r u m (writes.Move call) =
    let cost = cost_move call in
    let source = folder_named r u call.source in
    let target = folder_named r u call.target in
    where_found r (after_move_of r u m cost call) (addressed r u call.place)
    (λ x. either r (stepped r cost) (changed_by (moved r (entry_of x) source target) x.id m cost) (same source target) (refl, refl) (refl, refl))
write_stays r u m (writes.AddToFolder call) = where_found r (after_add_to_folder_of r u m (cost_add_to_folder call) call) (addressed r u call.place) (λ x. (refl, refl))
write_stays r u m (writes.RemoveFromFolder call) =
    let cost = cost_remove_from_folder call in
    where_found r (after_remove_from_folder_of r u m cost call) (addressed r u call.place) (λ x. removal_stays r m cost x (option_map (folder_named r u) call.folder))
write_stays r u m (writes.Delete call) = where_found r (after_delete_of r m (cost_delete call) call) (addressed r u call.place) (λ x. (refl, refl))
write_stays r u m (writes.CancelCheckOut call) = where_found r (after_cancel_of r m (cost_cancel call)) (addressed r u call.place) (λ x. (refl, refl))
write_stays r u m (writes.Update call) =
    let next = stepped r (cost_update call) in
    where_found r (changed_in next u m call) (addressed r u call.place) (λ x. update_stays next u m call x)
write_stays r u m (writes.ApplyAcl call) = where_found r (after_apply_acl_of r m (cost_apply_acl call) call) (addressed r u call.place) (λ x. (refl, refl))
write_stays r u m (writes.CreateType call) = (refl, refl)
write_stays r u m (writes.UpdateType call) = (refl, refl)
write_stays r u m (writes.DeleteType call) = (refl, refl)
write_stays r u m (writes.CreateItem call) = making_stays r (cost_create_item r call) (item_made r u m call)
write_stays r u m (writes.CreatePolicy call) = making_stays r (cost_create_policy r call) (policy_made r u m call)
write_stays r u m (writes.CreateRelationship call) = making_stays r (cost_create_relationship r call) (relationship_of r u m (with_name call))
write_stays r u m (writes.CreateDocumentFromSource call) =
    document_stays r (sources.parts_made r u m call) (new_aces u call.document.remove call.document.add) (policies_in r u call.document.policies)
    (sources.cost_create_document_from_source r u call) m
write_stays r u m (writes.DeleteTree call) =
    let cost = cost_delete_tree call in
    where_found r (after_delete_tree_of r u m cost call) (addressed r u call.place) (λ x. tree_stays r u m cost call x)
write_stays r u m (writes.ApplyPolicy call) =
    let cost = cost_apply_policy call in
    let policy = number_or_root (read_named r u call.policy) in
    where_found r (after_apply_policy_of r u m cost call) (addressed r u call.place)
    (λ x. either r (stepped r cost) (noted (stepped (with_policies r x.id (policy ∷ [])) cost) changes.Updated x.id m []) (is_applied r policy x.id) (refl, refl) (refl, refl))
write_stays r u m (writes.RemovePolicy call) =
    let cost = cost_remove_policy call in
    let policy = number_or_root (read_named r u call.policy) in
    where_found r (after_remove_policy_of r u m cost call) (addressed r u call.place)
    (λ x. either r (noted (stepped (without_policy r policy x.id) cost) changes.Updated x.id m []) (stepped r cost) (is_applied r policy x.id) (refl, refl) (refl, refl))
write_stays r u m (writes.BulkUpdate call) = bulk_stays r u m call (stepped r (cost_bulk_update call), []) (refl, refl) call.objects
write_stays r u m (writes.AddRendition call) = where_found r (after_add_rendition_of r m (cost_add_rendition call) call) (addressed r u call.place) (λ x. (refl, refl))
