-- The encoding of a write: a byte that says which it is, from 1 to 26 in the order of the table of writes, and then its fields.
use Rattle.std.proofs.Common.{◌≡◌, ℕ, suc, List, ◌∷◌, ◌++◌, Some, Result, Ok, Err, refl, inl, inr, ◌⊎◌}
use Rattle.byte_codec.specs.declared.stop.DecodeStop.{DecodeStop}
use Rattle.cm_call.specs.declared.write.Write.{Write}
use Rattle.cm_call.specs.declared.write.Write.TheVariants as writes
use Rattle.access_parts.specs.declared.writes.ApplyAcl.{ApplyAcl}
use Rattle.bulk_parts.specs.declared.writes.BulkUpdate.{BulkUpdate}
use Rattle.call_parts.specs.declared.changes.AddToFolder.{AddToFolder}
use Rattle.call_parts.specs.declared.changes.AppendContent.{AppendContent}
use Rattle.call_parts.specs.declared.changes.DeleteContent.{DeleteContent}
use Rattle.call_parts.specs.declared.changes.MoveObject.{MoveObject}
use Rattle.call_parts.specs.declared.changes.RemoveFromFolder.{RemoveFromFolder}
use Rattle.call_parts.specs.declared.changes.SetContent.{SetContent}
use Rattle.call_parts.specs.declared.changes.UpdateProperties.{UpdateProperties}
use Rattle.call_parts.specs.declared.versions.CancelCheckOut.{CancelCheckOut}
use Rattle.call_parts.specs.declared.versions.CheckIn.{CheckIn}
use Rattle.call_parts.specs.declared.versions.CheckOut.{CheckOut}
use Rattle.call_parts.specs.declared.versions.CreateDocument.{CreateDocument}
use Rattle.call_parts.specs.declared.versions.Delete.{Delete}
use Rattle.call_parts.specs.declared.writes.CreateFolder.{CreateFolder}
use Rattle.create_parts.specs.declared.writes.CreateItem.{CreateItem}
use Rattle.create_parts.specs.declared.writes.CreatePolicy.{CreatePolicy}
use Rattle.create_parts.specs.declared.writes.CreateRelationship.{CreateRelationship}
use Rattle.delete_tree_parts.specs.declared.writes.DeleteTree.{DeleteTree}
use Rattle.policy_parts.specs.declared.writes.ApplyPolicy.{ApplyPolicy}
use Rattle.policy_parts.specs.declared.writes.RemovePolicy.{RemovePolicy}
use Rattle.rendition_parts.specs.declared.writes.AddRendition.{AddRendition}
use Rattle.source_parts.specs.declared.writes.CreateDocumentFromSource.{CreateDocumentFromSource}
use Rattle.type_change_parts.specs.declared.writes.CreateType.{CreateType}
use Rattle.type_change_parts.specs.declared.writes.DeleteType.{DeleteType}
use Rattle.type_change_parts.specs.declared.writes.UpdateType.{UpdateType}
use Rattle.byte_codec.specs.Codecs.{Codec, Stops}
use Rattle.byte_codec.specs.Parts.{via}
use Rattle.byte_codec.specs.Choices.{Choice, one, ◌or◌, tagged}
use Rattle.call_codec.specs.Calls.{create_type, update_type, delete_type, create_document, create_from_source, create_folder, create_relationship, create_policy, create_item, update, bulk_update, set_content, append_content, delete_content, add_rendition, delete, delete_tree, move_object, add_to_folder, remove_from_folder, check_out, cancel_check_out, check_in, apply_policy, remove_policy, apply_acl}

abbrev pub TypeCalls : Type 0
TypeCalls = CreateType ⊎ (UpdateType ⊎ DeleteType)

abbrev pub type_calls : Choice TypeCalls
type_calls = one create_type or one update_type or one delete_type

abbrev pub Creates : Type 0
Creates = CreateDocument ⊎ (CreateDocumentFromSource ⊎ (CreateFolder ⊎ (CreateRelationship ⊎ (CreatePolicy ⊎ CreateItem))))

abbrev pub creates : Choice Creates
creates = one create_document or one create_from_source or one create_folder or one create_relationship or one create_policy or one create_item

abbrev pub Updates : Type 0
Updates = UpdateProperties ⊎ BulkUpdate

abbrev pub updates : Choice Updates
updates = one update or one bulk_update

abbrev pub Contents : Type 0
Contents = SetContent ⊎ (AppendContent ⊎ (DeleteContent ⊎ AddRendition))

abbrev pub contents : Choice Contents
contents = one set_content or one append_content or one delete_content or one add_rendition

abbrev pub Removals : Type 0
Removals = Delete ⊎ DeleteTree

abbrev pub removals : Choice Removals
removals = one delete or one delete_tree

abbrev pub Filings : Type 0
Filings = MoveObject ⊎ (AddToFolder ⊎ RemoveFromFolder)

abbrev pub filings : Choice Filings
filings = one move_object or one add_to_folder or one remove_from_folder

abbrev pub Versionings : Type 0
Versionings = CheckOut ⊎ (CancelCheckOut ⊎ CheckIn)

abbrev pub versionings : Choice Versionings
versionings = one check_out or one cancel_check_out or one check_in

abbrev pub Accesses : Type 0
Accesses = ApplyPolicy ⊎ (RemovePolicy ⊎ ApplyAcl)

abbrev pub access : Choice Accesses
access = one apply_policy or one remove_policy or one apply_acl

abbrev pub Alternatives : Type 0
Alternatives = TypeCalls ⊎ (Creates ⊎ (Updates ⊎ (Contents ⊎ (Removals ⊎ (Filings ⊎ (Versionings ⊎ Accesses))))))

abbrev pub parts_of : Write → Alternatives
parts_of (writes.CreateType c) = inl (inl c)
parts_of (writes.UpdateType c) = inl (inr (inl c))
parts_of (writes.DeleteType c) = inl (inr (inr c))
parts_of (writes.CreateDocument c) = inr (inl (inl c))
parts_of (writes.CreateDocumentFromSource c) = inr (inl (inr (inl c)))
parts_of (writes.CreateFolder c) = inr (inl (inr (inr (inl c))))
parts_of (writes.CreateRelationship c) = inr (inl (inr (inr (inr (inl c)))))
parts_of (writes.CreatePolicy c) = inr (inl (inr (inr (inr (inr (inl c))))))
parts_of (writes.CreateItem c) = inr (inl (inr (inr (inr (inr (inr c))))))
parts_of (writes.Update c) = inr (inr (inl (inl c)))
parts_of (writes.BulkUpdate c) = inr (inr (inl (inr c)))
parts_of (writes.SetContent c) = inr (inr (inr (inl (inl c))))
parts_of (writes.AppendContent c) = inr (inr (inr (inl (inr (inl c)))))
parts_of (writes.DeleteContent c) = inr (inr (inr (inl (inr (inr (inl c))))))
parts_of (writes.AddRendition c) = inr (inr (inr (inl (inr (inr (inr c))))))
parts_of (writes.Delete c) = inr (inr (inr (inr (inl (inl c)))))
parts_of (writes.DeleteTree c) = inr (inr (inr (inr (inl (inr c)))))
parts_of (writes.Move c) = inr (inr (inr (inr (inr (inl (inl c))))))
parts_of (writes.AddToFolder c) = inr (inr (inr (inr (inr (inl (inr (inl c)))))))
parts_of (writes.RemoveFromFolder c) = inr (inr (inr (inr (inr (inl (inr (inr c)))))))
parts_of (writes.CheckOut c) = inr (inr (inr (inr (inr (inr (inl (inl c)))))))
parts_of (writes.CancelCheckOut c) = inr (inr (inr (inr (inr (inr (inl (inr (inl c))))))))
parts_of (writes.CheckIn c) = inr (inr (inr (inr (inr (inr (inl (inr (inr c))))))))
parts_of (writes.ApplyPolicy c) = inr (inr (inr (inr (inr (inr (inr (inl c)))))))
parts_of (writes.RemovePolicy c) = inr (inr (inr (inr (inr (inr (inr (inr (inl c))))))))
parts_of (writes.ApplyAcl c) = inr (inr (inr (inr (inr (inr (inr (inr (inr c))))))))

abbrev pub write_of : Alternatives → Write
write_of (inl (inl c)) = writes.CreateType c
write_of (inl (inr (inl c))) = writes.UpdateType c
write_of (inl (inr (inr c))) = writes.DeleteType c
write_of (inr (inl (inl c))) = writes.CreateDocument c
write_of (inr (inl (inr (inl c)))) = writes.CreateDocumentFromSource c
write_of (inr (inl (inr (inr (inl c))))) = writes.CreateFolder c
write_of (inr (inl (inr (inr (inr (inl c)))))) = writes.CreateRelationship c
write_of (inr (inl (inr (inr (inr (inr (inl c))))))) = writes.CreatePolicy c
write_of (inr (inl (inr (inr (inr (inr (inr c))))))) = writes.CreateItem c
write_of (inr (inr (inl (inl c)))) = writes.Update c
write_of (inr (inr (inl (inr c)))) = writes.BulkUpdate c
write_of (inr (inr (inr (inl (inl c))))) = writes.SetContent c
write_of (inr (inr (inr (inl (inr (inl c)))))) = writes.AppendContent c
write_of (inr (inr (inr (inl (inr (inr (inl c))))))) = writes.DeleteContent c
write_of (inr (inr (inr (inl (inr (inr (inr c))))))) = writes.AddRendition c
write_of (inr (inr (inr (inr (inl (inl c)))))) = writes.Delete c
write_of (inr (inr (inr (inr (inl (inr c)))))) = writes.DeleteTree c
write_of (inr (inr (inr (inr (inr (inl (inl c))))))) = writes.Move c
write_of (inr (inr (inr (inr (inr (inl (inr (inl c)))))))) = writes.AddToFolder c
write_of (inr (inr (inr (inr (inr (inl (inr (inr c)))))))) = writes.RemoveFromFolder c
write_of (inr (inr (inr (inr (inr (inr (inl (inl c)))))))) = writes.CheckOut c
write_of (inr (inr (inr (inr (inr (inr (inl (inr (inl c))))))))) = writes.CancelCheckOut c
write_of (inr (inr (inr (inr (inr (inr (inl (inr (inr c))))))))) = writes.CheckIn c
write_of (inr (inr (inr (inr (inr (inr (inr (inl c)))))))) = writes.ApplyPolicy c
write_of (inr (inr (inr (inr (inr (inr (inr (inr (inl c))))))))) = writes.RemovePolicy c
write_of (inr (inr (inr (inr (inr (inr (inr (inr (inr c))))))))) = writes.ApplyAcl c

pub write_forth : (w : Write) → write_of (parts_of w) ≡ w
write_forth (writes.CreateType c) = refl
write_forth (writes.UpdateType c) = refl
write_forth (writes.DeleteType c) = refl
write_forth (writes.CreateDocument c) = refl
write_forth (writes.CreateDocumentFromSource c) = refl
write_forth (writes.CreateFolder c) = refl
write_forth (writes.CreateRelationship c) = refl
write_forth (writes.CreatePolicy c) = refl
write_forth (writes.CreateItem c) = refl
write_forth (writes.Update c) = refl
write_forth (writes.BulkUpdate c) = refl
write_forth (writes.SetContent c) = refl
write_forth (writes.AppendContent c) = refl
write_forth (writes.DeleteContent c) = refl
write_forth (writes.AddRendition c) = refl
write_forth (writes.Delete c) = refl
write_forth (writes.DeleteTree c) = refl
write_forth (writes.Move c) = refl
write_forth (writes.AddToFolder c) = refl
write_forth (writes.RemoveFromFolder c) = refl
write_forth (writes.CheckOut c) = refl
write_forth (writes.CancelCheckOut c) = refl
write_forth (writes.CheckIn c) = refl
write_forth (writes.ApplyPolicy c) = refl
write_forth (writes.RemovePolicy c) = refl
write_forth (writes.ApplyAcl c) = refl

pub write_back : (s : Alternatives) → parts_of (write_of s) ≡ s
write_back (inl (inl c)) = refl
write_back (inl (inr (inl c))) = refl
write_back (inl (inr (inr c))) = refl
write_back (inr (inl (inl c))) = refl
write_back (inr (inl (inr (inl c)))) = refl
write_back (inr (inl (inr (inr (inl c))))) = refl
write_back (inr (inl (inr (inr (inr (inl c)))))) = refl
write_back (inr (inl (inr (inr (inr (inr (inl c))))))) = refl
write_back (inr (inl (inr (inr (inr (inr (inr c))))))) = refl
write_back (inr (inr (inl (inl c)))) = refl
write_back (inr (inr (inl (inr c)))) = refl
write_back (inr (inr (inr (inl (inl c))))) = refl
write_back (inr (inr (inr (inl (inr (inl c)))))) = refl
write_back (inr (inr (inr (inl (inr (inr (inl c))))))) = refl
write_back (inr (inr (inr (inl (inr (inr (inr c))))))) = refl
write_back (inr (inr (inr (inr (inl (inl c)))))) = refl
write_back (inr (inr (inr (inr (inl (inr c)))))) = refl
write_back (inr (inr (inr (inr (inr (inl (inl c))))))) = refl
write_back (inr (inr (inr (inr (inr (inl (inr (inl c)))))))) = refl
write_back (inr (inr (inr (inr (inr (inl (inr (inr c)))))))) = refl
write_back (inr (inr (inr (inr (inr (inr (inl (inl c)))))))) = refl
write_back (inr (inr (inr (inr (inr (inr (inl (inr (inl c))))))))) = refl
write_back (inr (inr (inr (inr (inr (inr (inl (inr (inr c))))))))) = refl
write_back (inr (inr (inr (inr (inr (inr (inr (inl c)))))))) = refl
write_back (inr (inr (inr (inr (inr (inr (inr (inr (inl c))))))))) = refl
write_back (inr (inr (inr (inr (inr (inr (inr (inr (inr c))))))))) = refl

abbrev pub alternatives : Choice Alternatives
alternatives = type_calls or creates or updates or contents or removals or filings or versionings or access

abbrev pub call : Codec Write
call = via parts_of write_of write_forth write_back (tagged alternatives)

-- The byte that says which write it is.
abbrev pub tag_of : Write → ℕ
tag_of w = suc (alternatives.place (parts_of w))

-- The fields of a write were put behind what was there.
pub record FieldsWritten (w : Write) (old new : List ℕ) : Type 0 where
  pub text : new ≡ old ++ alternatives.body (parts_of w)
  pub fits : alternatives.fits (parts_of w)

-- What reading answers behind this tag.
abbrev pub ReadsBehind : ℕ → Result Write DecodeStop → List ℕ → List ℕ → Type 0
ReadsBehind tag (Ok w) old new = call.reads (tag ∷ old) ≡ Some (w, new)
ReadsBehind tag (Err e) old new = Stops e (call.reads (tag ∷ old))
