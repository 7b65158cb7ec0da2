-- The encodings of calls: their fields one after the other.
use Rattle.std.proofs.Common.{◌≡◌, refl, List, ℕ}
use Rattle.access_parts.specs.declared.writes.ApplyAcl.{ApplyAcl}
use Rattle.bulk_parts.specs.declared.writes.BulkUpdate.{BulkUpdate}
use Rattle.call_parts.specs.declared.changes.AddToFolder.{AddToFolder}
use Rattle.call_parts.specs.declared.changes.AppendContent.{AppendContent}
use Rattle.call_parts.specs.declared.changes.DeleteContent.{DeleteContent}
use Rattle.call_parts.specs.declared.changes.MoveObject.{MoveObject}
use Rattle.call_parts.specs.declared.changes.RemoveFromFolder.{RemoveFromFolder}
use Rattle.call_parts.specs.declared.changes.SetContent.{SetContent}
use Rattle.call_parts.specs.declared.changes.UpdateProperties.{UpdateProperties}
use Rattle.call_parts.specs.declared.versions.CancelCheckOut.{CancelCheckOut}
use Rattle.call_parts.specs.declared.versions.CheckIn.{CheckIn}
use Rattle.call_parts.specs.declared.versions.CheckOut.{CheckOut}
use Rattle.call_parts.specs.declared.versions.CreateDocument.{CreateDocument}
use Rattle.call_parts.specs.declared.versions.Delete.{Delete}
use Rattle.call_parts.specs.declared.writes.CreateFolder.{CreateFolder}
use Rattle.create_parts.specs.declared.writes.CreateItem.{CreateItem}
use Rattle.create_parts.specs.declared.writes.CreatePolicy.{CreatePolicy}
use Rattle.create_parts.specs.declared.writes.CreateRelationship.{CreateRelationship}
use Rattle.delete_tree_parts.specs.declared.writes.DeleteTree.{DeleteTree}
use Rattle.policy_parts.specs.declared.writes.ApplyPolicy.{ApplyPolicy}
use Rattle.policy_parts.specs.declared.writes.RemovePolicy.{RemovePolicy}
use Rattle.rendition_parts.specs.declared.writes.AddRendition.{AddRendition}
use Rattle.source_parts.specs.declared.writes.CreateDocumentFromSource.{CreateDocumentFromSource}
use Rattle.type_change_parts.specs.declared.writes.CreateType.{CreateType}
use Rattle.type_change_parts.specs.declared.writes.DeleteType.{DeleteType}
use Rattle.type_change_parts.specs.declared.writes.UpdateType.{UpdateType}
use Rattle.byte_codec.specs.Codecs.{Codec}
use Rattle.byte_codec.specs.Parts.{both, via, flag, optional}
use Rattle.byte_codec.specs.Numbers.{text}
use Rattle.byte_codec.specs.Runs.{list}
use Rattle.argument_codec.specs.Places.{place}
use Rattle.argument_codec.specs.Types.{type_request}
use Rattle.argument_codec.specs.Values.{given, ace, stream, state, identified, object, object_of, propagation, unfile}

abbrev pub create_type : Codec CreateType
create_type = via (λ c. c.definition) (λ t. record { definition = t }) (λ c. refl) (λ t. refl) type_request

abbrev pub update_type : Codec UpdateType
update_type = via (λ c. c.definition) (λ t. record { definition = t }) (λ c. refl) (λ t. refl) type_request

abbrev pub delete_type : Codec DeleteType
delete_type = via (λ c. c.type_id) (λ t. record { type_id = t }) (λ c. refl) (λ t. refl) text

abbrev pub create_document : Codec CreateDocument
create_document = via (λ c. (c.place, (c.succinct, (object_of c.properties c.policies c.add c.remove, (c.state, c.stream)))))
    (λ t. record { place = t.0; succinct = t.1.0; properties = t.1.1.0.properties; policies = t.1.1.0.policies; add = t.1.1.0.add; remove = t.1.1.0.remove; state = t.1.1.1.0; stream = t.1.1.1.1 }) (λ c. refl) (λ t. refl)
    (both (optional place) (both flag (both object (both (optional state) (optional stream)))))

abbrev pub create_from_source : Codec CreateDocumentFromSource
create_from_source = via (λ c. (c.source, c.document))
    (λ t. record { source = t.0; document = t.1 }) (λ c. refl) (λ t. refl)
    (both text create_document)

abbrev pub create_folder : Codec CreateFolder
create_folder = via (λ c. (c.place, (c.succinct, object_of c.properties c.policies c.add c.remove)))
    (λ t. record { place = t.0; succinct = t.1.0; properties = t.1.1.properties; policies = t.1.1.policies; add = t.1.1.add; remove = t.1.1.remove }) (λ c. refl) (λ t. refl)
    (both place (both flag object))

abbrev pub create_relationship : Codec CreateRelationship
create_relationship = via (λ c. (c.place, (c.succinct, c.object)))
    (λ t. record { place = t.0; succinct = t.1.0; object = t.1.1 }) (λ c. refl) (λ t. refl)
    (both (optional place) (both flag object))

abbrev pub create_policy : Codec CreatePolicy
create_policy = via (λ c. (c.place, (c.succinct, c.object)))
    (λ t. record { place = t.0; succinct = t.1.0; object = t.1.1 }) (λ c. refl) (λ t. refl)
    (both (optional place) (both flag object))

abbrev pub create_item : Codec CreateItem
create_item = via (λ c. (c.place, (c.succinct, c.object)))
    (λ t. record { place = t.0; succinct = t.1.0; object = t.1.1 }) (λ c. refl) (λ t. refl)
    (both (optional place) (both flag object))

abbrev pub update : Codec UpdateProperties
update = via (λ c. (c.place, (c.succinct, (c.properties, (c.token, (c.add_secondary, c.remove_secondary))))))
    (λ t. record { place = t.0; succinct = t.1.0; properties = t.1.1.0; token = t.1.1.1.0; add_secondary = t.1.1.1.1.0; remove_secondary = t.1.1.1.1.1 }) (λ c. refl) (λ t. refl)
    (both place (both flag (both (list given) (both (optional text) (both (list text) (list text))))))

abbrev pub bulk_update : Codec BulkUpdate
bulk_update = via (λ c. (c.properties, (c.objects, (c.add_secondary, c.remove_secondary))))
    (λ t. record { properties = t.0; objects = t.1.0; add_secondary = t.1.1.0; remove_secondary = t.1.1.1 }) (λ c. refl) (λ t. refl)
    (both (list given) (both (list identified) (both (list text) (list text))))

abbrev pub set_content : Codec SetContent
set_content = via (λ c. (c.place, (c.succinct, (c.overwrite, (c.token, c.stream)))))
    (λ t. record { place = t.0; succinct = t.1.0; overwrite = t.1.1.0; token = t.1.1.1.0; stream = t.1.1.1.1 }) (λ c. refl) (λ t. refl)
    (both place (both flag (both flag (both (optional text) stream))))

abbrev pub append_content : Codec AppendContent
append_content = via (λ c. (c.place, (c.succinct, (c.token, c.stream))))
    (λ t. record { place = t.0; succinct = t.1.0; token = t.1.1.0; stream = t.1.1.1 }) (λ c. refl) (λ t. refl)
    (both place (both flag (both (optional text) stream)))

abbrev pub delete_content : Codec DeleteContent
delete_content = via (λ c. (c.place, (c.succinct, c.token)))
    (λ t. record { place = t.0; succinct = t.1.0; token = t.1.1 }) (λ c. refl) (λ t. refl)
    (both place (both flag (optional text)))

abbrev pub add_rendition : Codec AddRendition
add_rendition = via (λ c. (c.place, (c.succinct, (c.kind, (c.title, c.stream)))))
    (λ t. record { place = t.0; succinct = t.1.0; kind = t.1.1.0; title = t.1.1.1.0; stream = t.1.1.1.1 }) (λ c. refl) (λ t. refl)
    (both place (both flag (both text (both (optional text) stream))))

abbrev pub delete : Codec Delete
delete = via (λ c. (c.place, c.all_versions))
    (λ t. record { place = t.0; all_versions = t.1 }) (λ c. refl) (λ t. refl)
    (both place flag)

abbrev pub delete_tree : Codec DeleteTree
delete_tree = via (λ c. (c.place, (c.unfile_objects, c.continue_on_failure)))
    (λ t. record { place = t.0; unfile_objects = t.1.0; continue_on_failure = t.1.1 }) (λ c. refl) (λ t. refl)
    (both place (both unfile flag))

abbrev pub move_object : Codec MoveObject
move_object = via (λ c. (c.place, (c.succinct, (c.source, c.target))))
    (λ t. record { place = t.0; succinct = t.1.0; source = t.1.1.0; target = t.1.1.1 }) (λ c. refl) (λ t. refl)
    (both place (both flag (both text text)))

abbrev pub add_to_folder : Codec AddToFolder
add_to_folder = via (λ c. (c.place, (c.succinct, c.folder)))
    (λ t. record { place = t.0; succinct = t.1.0; folder = t.1.1 }) (λ c. refl) (λ t. refl)
    (both place (both flag text))

abbrev pub remove_from_folder : Codec RemoveFromFolder
remove_from_folder = via (λ c. (c.place, (c.succinct, c.folder)))
    (λ t. record { place = t.0; succinct = t.1.0; folder = t.1.1 }) (λ c. refl) (λ t. refl)
    (both place (both flag (optional text)))

abbrev pub check_out : Codec CheckOut
check_out = via (λ c. (c.place, c.succinct))
    (λ t. record { place = t.0; succinct = t.1 }) (λ c. refl) (λ t. refl)
    (both place flag)

abbrev pub cancel_check_out : Codec CancelCheckOut
cancel_check_out = via (λ c. c.place) (λ t. record { place = t }) (λ c. refl) (λ t. refl) place

abbrev pub check_in : Codec CheckIn
check_in = via (λ c. (c.place, (c.succinct, (c.major, (c.comment, (c.properties, c.stream))))))
    (λ t. record { place = t.0; succinct = t.1.0; major = t.1.1.0; comment = t.1.1.1.0; properties = t.1.1.1.1.0; stream = t.1.1.1.1.1 }) (λ c. refl) (λ t. refl)
    (both place (both flag (both flag (both (optional text) (both (list given) (optional stream))))))

abbrev pub apply_policy : Codec ApplyPolicy
apply_policy = via (λ c. (c.place, (c.succinct, c.policy)))
    (λ t. record { place = t.0; succinct = t.1.0; policy = t.1.1 }) (λ c. refl) (λ t. refl)
    (both place (both flag text))

abbrev pub remove_policy : Codec RemovePolicy
remove_policy = via (λ c. (c.place, c.policy))
    (λ t. record { place = t.0; policy = t.1 }) (λ c. refl) (λ t. refl)
    (both place text)

abbrev pub apply_acl : Codec ApplyAcl
apply_acl = via (λ c. (c.place, (c.add, (c.remove, c.propagation))))
    (λ t. record { place = t.0; add = t.1.0; remove = t.1.1.0; propagation = t.1.1.1 }) (λ c. refl) (λ t. refl)
    (both place (both (list ace) (both (list ace) propagation)))
