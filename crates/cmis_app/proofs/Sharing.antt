-- Threads may share the calls that change the repository, each by its fields.
use denote.Param.Send.{IsSend, IsSync, sendable}
use Rattle.std.proofs.Crossing.{crosses}
use Rattle.share_laws.proofs.Crosses.{Text-send, Text-sync, Value-send, Value-sync, Pieces-send, Pieces-sync, Items-send, Items-sync, Object-send, Object-sync, Content-send, Content-sync, Choice-send, Choice-sync, PropDef-send, PropDef-sync, TypeDef-send, TypeDef-sync}
use Rattle.cm_types.specs.contracts.request.TypeRequest as TypeRequest
use Rattle.cm_types.specs.contracts.request.PropRequest as PropRequest
use Rattle.call_parts.specs.contracts.stream.GivenStream as GivenStream
use Rattle.cm_types.specs.contracts.given.Given as Given
use Rattle.call_parts.specs.contracts.writes.CreateFolder as CreateFolder
use Rattle.call_parts.specs.contracts.versions.CreateDocument as CreateDocument
use Rattle.call_parts.specs.contracts.versions.CheckOut as CheckOut
use Rattle.call_parts.specs.contracts.versions.CheckIn as CheckIn
use Rattle.call_parts.specs.contracts.changes.SetContent as SetContent
use Rattle.call_parts.specs.contracts.changes.AppendContent as AppendContent
use Rattle.call_parts.specs.contracts.changes.DeleteContent as DeleteContent
use Rattle.call_parts.specs.contracts.changes.MoveObject as MoveObject
use Rattle.call_parts.specs.contracts.changes.AddToFolder as AddToFolder
use Rattle.call_parts.specs.contracts.changes.RemoveFromFolder as RemoveFromFolder
use Rattle.call_parts.specs.contracts.versions.Delete as Delete
use Rattle.call_parts.specs.contracts.versions.CancelCheckOut as CancelCheckOut
use Rattle.call_parts.specs.contracts.changes.UpdateProperties as UpdateProperties
use Rattle.access_parts.specs.contracts.writes.ApplyAcl as ApplyAcl
use Rattle.type_change_parts.specs.contracts.writes.CreateType as CreateType
use Rattle.type_change_parts.specs.contracts.writes.UpdateType as UpdateType
use Rattle.type_change_parts.specs.contracts.writes.DeleteType as DeleteType
use Rattle.create_parts.specs.contracts.writes.CreateItem as CreateItem
use Rattle.create_parts.specs.contracts.writes.CreatePolicy as CreatePolicy
use Rattle.create_parts.specs.contracts.writes.CreateRelationship as CreateRelationship
use Rattle.source_parts.specs.contracts.writes.CreateDocumentFromSource as CreateDocumentFromSource
use Rattle.delete_tree_parts.specs.contracts.writes.DeleteTree as DeleteTree
use Rattle.policy_parts.specs.contracts.writes.ApplyPolicy as ApplyPolicy
use Rattle.policy_parts.specs.contracts.writes.RemovePolicy as RemovePolicy
use Rattle.bulk_parts.specs.contracts.writes.BulkUpdate as BulkUpdate
use Rattle.rendition_parts.specs.contracts.writes.AddRendition as AddRendition
use Rattle.cm_call.specs.contracts.write.Write as Write

pub GivenStream-send : IsSend (GivenStream.the_field).row
GivenStream-send = search (Text-send, Pieces-send, sendable, crosses) depth 60 fits 20000

pub GivenStream-sync : IsSync (GivenStream.the_field).row
GivenStream-sync = search (Text-sync, Pieces-sync, sendable, crosses) depth 60 fits 20000

pub Given-send : IsSend (Given.the_field).row
Given-send = search (Text-send, Value-send, Items-send, sendable, crosses) depth 60 fits 20000

pub Given-sync : IsSync (Given.the_field).row
Given-sync = search (Text-sync, Value-sync, Items-sync, sendable, crosses) depth 60 fits 20000

pub PropRequest-send : IsSend (PropRequest.the_field).row
PropRequest-send = search (Text-send, Value-send, Choice-send, Items-send, sendable, crosses) depth 60 fits 20000

pub PropRequest-sync : IsSync (PropRequest.the_field).row
PropRequest-sync = search (Text-sync, Value-sync, Choice-sync, Items-sync, sendable, crosses) depth 60 fits 20000

pub TypeRequest-send : IsSend (TypeRequest.the_field).row
TypeRequest-send = search (Text-send, PropRequest-send, Items-send, sendable, crosses) depth 60 fits 20000

pub TypeRequest-sync : IsSync (TypeRequest.the_field).row
TypeRequest-sync = search (Text-sync, PropRequest-sync, Items-sync, sendable, crosses) depth 60 fits 20000

pub CreateFolder-send : IsSend (CreateFolder.the_field).row
CreateFolder-send = search (Text-send, Value-send, Items-send, GivenStream-send, Given-send, TypeRequest-send, sendable, crosses) depth 60 fits 20000

pub CreateFolder-sync : IsSync (CreateFolder.the_field).row
CreateFolder-sync = search (Text-sync, Value-sync, Items-sync, GivenStream-sync, Given-sync, TypeRequest-sync, sendable, crosses) depth 60 fits 20000

pub CreateDocument-send : IsSend (CreateDocument.the_field).row
CreateDocument-send = search (Text-send, Value-send, Items-send, GivenStream-send, Given-send, TypeRequest-send, sendable, crosses) depth 60 fits 20000

pub CreateDocument-sync : IsSync (CreateDocument.the_field).row
CreateDocument-sync = search (Text-sync, Value-sync, Items-sync, GivenStream-sync, Given-sync, TypeRequest-sync, sendable, crosses) depth 60 fits 20000

pub CheckOut-send : IsSend (CheckOut.the_field).row
CheckOut-send = search (Text-send, Value-send, Items-send, GivenStream-send, Given-send, TypeRequest-send, sendable, crosses) depth 60 fits 20000

pub CheckOut-sync : IsSync (CheckOut.the_field).row
CheckOut-sync = search (Text-sync, Value-sync, Items-sync, GivenStream-sync, Given-sync, TypeRequest-sync, sendable, crosses) depth 60 fits 20000

pub CheckIn-send : IsSend (CheckIn.the_field).row
CheckIn-send = search (Text-send, Value-send, Items-send, GivenStream-send, Given-send, TypeRequest-send, sendable, crosses) depth 60 fits 20000

pub CheckIn-sync : IsSync (CheckIn.the_field).row
CheckIn-sync = search (Text-sync, Value-sync, Items-sync, GivenStream-sync, Given-sync, TypeRequest-sync, sendable, crosses) depth 60 fits 20000

pub SetContent-send : IsSend (SetContent.the_field).row
SetContent-send = search (Text-send, Value-send, Items-send, GivenStream-send, Given-send, TypeRequest-send, sendable, crosses) depth 60 fits 20000

pub SetContent-sync : IsSync (SetContent.the_field).row
SetContent-sync = search (Text-sync, Value-sync, Items-sync, GivenStream-sync, Given-sync, TypeRequest-sync, sendable, crosses) depth 60 fits 20000

pub AppendContent-send : IsSend (AppendContent.the_field).row
AppendContent-send = search (Text-send, Value-send, Items-send, GivenStream-send, Given-send, TypeRequest-send, sendable, crosses) depth 60 fits 20000

pub AppendContent-sync : IsSync (AppendContent.the_field).row
AppendContent-sync = search (Text-sync, Value-sync, Items-sync, GivenStream-sync, Given-sync, TypeRequest-sync, sendable, crosses) depth 60 fits 20000

pub DeleteContent-send : IsSend (DeleteContent.the_field).row
DeleteContent-send = search (Text-send, Value-send, Items-send, GivenStream-send, Given-send, TypeRequest-send, sendable, crosses) depth 60 fits 20000

pub DeleteContent-sync : IsSync (DeleteContent.the_field).row
DeleteContent-sync = search (Text-sync, Value-sync, Items-sync, GivenStream-sync, Given-sync, TypeRequest-sync, sendable, crosses) depth 60 fits 20000

pub MoveObject-send : IsSend (MoveObject.the_field).row
MoveObject-send = search (Text-send, Value-send, Items-send, GivenStream-send, Given-send, TypeRequest-send, sendable, crosses) depth 60 fits 20000

pub MoveObject-sync : IsSync (MoveObject.the_field).row
MoveObject-sync = search (Text-sync, Value-sync, Items-sync, GivenStream-sync, Given-sync, TypeRequest-sync, sendable, crosses) depth 60 fits 20000

pub AddToFolder-send : IsSend (AddToFolder.the_field).row
AddToFolder-send = search (Text-send, Value-send, Items-send, GivenStream-send, Given-send, TypeRequest-send, sendable, crosses) depth 60 fits 20000

pub AddToFolder-sync : IsSync (AddToFolder.the_field).row
AddToFolder-sync = search (Text-sync, Value-sync, Items-sync, GivenStream-sync, Given-sync, TypeRequest-sync, sendable, crosses) depth 60 fits 20000

pub RemoveFromFolder-send : IsSend (RemoveFromFolder.the_field).row
RemoveFromFolder-send = search (Text-send, Value-send, Items-send, GivenStream-send, Given-send, TypeRequest-send, sendable, crosses) depth 60 fits 20000

pub RemoveFromFolder-sync : IsSync (RemoveFromFolder.the_field).row
RemoveFromFolder-sync = search (Text-sync, Value-sync, Items-sync, GivenStream-sync, Given-sync, TypeRequest-sync, sendable, crosses) depth 60 fits 20000

pub Delete-send : IsSend (Delete.the_field).row
Delete-send = search (Text-send, Value-send, Items-send, GivenStream-send, Given-send, TypeRequest-send, sendable, crosses) depth 60 fits 20000

pub Delete-sync : IsSync (Delete.the_field).row
Delete-sync = search (Text-sync, Value-sync, Items-sync, GivenStream-sync, Given-sync, TypeRequest-sync, sendable, crosses) depth 60 fits 20000

pub CancelCheckOut-send : IsSend (CancelCheckOut.the_field).row
CancelCheckOut-send = search (Text-send, Value-send, Items-send, GivenStream-send, Given-send, TypeRequest-send, sendable, crosses) depth 60 fits 20000

pub CancelCheckOut-sync : IsSync (CancelCheckOut.the_field).row
CancelCheckOut-sync = search (Text-sync, Value-sync, Items-sync, GivenStream-sync, Given-sync, TypeRequest-sync, sendable, crosses) depth 60 fits 20000

pub UpdateProperties-send : IsSend (UpdateProperties.the_field).row
UpdateProperties-send = search (Text-send, Value-send, Items-send, GivenStream-send, Given-send, TypeRequest-send, sendable, crosses) depth 60 fits 20000

pub UpdateProperties-sync : IsSync (UpdateProperties.the_field).row
UpdateProperties-sync = search (Text-sync, Value-sync, Items-sync, GivenStream-sync, Given-sync, TypeRequest-sync, sendable, crosses) depth 60 fits 20000

pub ApplyAcl-send : IsSend (ApplyAcl.the_field).row
ApplyAcl-send = search (Text-send, Value-send, Items-send, GivenStream-send, Given-send, TypeRequest-send, sendable, crosses) depth 60 fits 20000

pub ApplyAcl-sync : IsSync (ApplyAcl.the_field).row
ApplyAcl-sync = search (Text-sync, Value-sync, Items-sync, GivenStream-sync, Given-sync, TypeRequest-sync, sendable, crosses) depth 60 fits 20000

pub CreateType-send : IsSend (CreateType.the_field).row
CreateType-send = search (Text-send, Value-send, Items-send, GivenStream-send, Given-send, TypeRequest-send, sendable, crosses) depth 60 fits 20000

pub CreateType-sync : IsSync (CreateType.the_field).row
CreateType-sync = search (Text-sync, Value-sync, Items-sync, GivenStream-sync, Given-sync, TypeRequest-sync, sendable, crosses) depth 60 fits 20000

pub UpdateType-send : IsSend (UpdateType.the_field).row
UpdateType-send = search (Text-send, Value-send, Items-send, GivenStream-send, Given-send, TypeRequest-send, sendable, crosses) depth 60 fits 20000

pub UpdateType-sync : IsSync (UpdateType.the_field).row
UpdateType-sync = search (Text-sync, Value-sync, Items-sync, GivenStream-sync, Given-sync, TypeRequest-sync, sendable, crosses) depth 60 fits 20000

pub DeleteType-send : IsSend (DeleteType.the_field).row
DeleteType-send = search (Text-send, Value-send, Items-send, GivenStream-send, Given-send, TypeRequest-send, sendable, crosses) depth 60 fits 20000

pub DeleteType-sync : IsSync (DeleteType.the_field).row
DeleteType-sync = search (Text-sync, Value-sync, Items-sync, GivenStream-sync, Given-sync, TypeRequest-sync, sendable, crosses) depth 60 fits 20000

pub CreateItem-send : IsSend (CreateItem.the_field).row
CreateItem-send = search (Text-send, Value-send, Items-send, GivenStream-send, Given-send, TypeRequest-send, sendable, crosses) depth 60 fits 20000

pub CreateItem-sync : IsSync (CreateItem.the_field).row
CreateItem-sync = search (Text-sync, Value-sync, Items-sync, GivenStream-sync, Given-sync, TypeRequest-sync, sendable, crosses) depth 60 fits 20000

pub CreatePolicy-send : IsSend (CreatePolicy.the_field).row
CreatePolicy-send = search (Text-send, Value-send, Items-send, GivenStream-send, Given-send, TypeRequest-send, sendable, crosses) depth 60 fits 20000

pub CreatePolicy-sync : IsSync (CreatePolicy.the_field).row
CreatePolicy-sync = search (Text-sync, Value-sync, Items-sync, GivenStream-sync, Given-sync, TypeRequest-sync, sendable, crosses) depth 60 fits 20000

pub CreateRelationship-send : IsSend (CreateRelationship.the_field).row
CreateRelationship-send = search (Text-send, Value-send, Items-send, GivenStream-send, Given-send, TypeRequest-send, sendable, crosses) depth 60 fits 20000

pub CreateRelationship-sync : IsSync (CreateRelationship.the_field).row
CreateRelationship-sync = search (Text-sync, Value-sync, Items-sync, GivenStream-sync, Given-sync, TypeRequest-sync, sendable, crosses) depth 60 fits 20000

pub CreateDocumentFromSource-send : IsSend (CreateDocumentFromSource.the_field).row
CreateDocumentFromSource-send = search (Text-send, Value-send, Items-send, GivenStream-send, Given-send, TypeRequest-send, sendable, crosses) depth 60 fits 20000

pub CreateDocumentFromSource-sync : IsSync (CreateDocumentFromSource.the_field).row
CreateDocumentFromSource-sync = search (Text-sync, Value-sync, Items-sync, GivenStream-sync, Given-sync, TypeRequest-sync, sendable, crosses) depth 60 fits 20000

pub DeleteTree-send : IsSend (DeleteTree.the_field).row
DeleteTree-send = search (Text-send, Value-send, Items-send, GivenStream-send, Given-send, TypeRequest-send, sendable, crosses) depth 60 fits 20000

pub DeleteTree-sync : IsSync (DeleteTree.the_field).row
DeleteTree-sync = search (Text-sync, Value-sync, Items-sync, GivenStream-sync, Given-sync, TypeRequest-sync, sendable, crosses) depth 60 fits 20000

pub ApplyPolicy-send : IsSend (ApplyPolicy.the_field).row
ApplyPolicy-send = search (Text-send, Value-send, Items-send, GivenStream-send, Given-send, TypeRequest-send, sendable, crosses) depth 60 fits 20000

pub ApplyPolicy-sync : IsSync (ApplyPolicy.the_field).row
ApplyPolicy-sync = search (Text-sync, Value-sync, Items-sync, GivenStream-sync, Given-sync, TypeRequest-sync, sendable, crosses) depth 60 fits 20000

pub RemovePolicy-send : IsSend (RemovePolicy.the_field).row
RemovePolicy-send = search (Text-send, Value-send, Items-send, GivenStream-send, Given-send, TypeRequest-send, sendable, crosses) depth 60 fits 20000

pub RemovePolicy-sync : IsSync (RemovePolicy.the_field).row
RemovePolicy-sync = search (Text-sync, Value-sync, Items-sync, GivenStream-sync, Given-sync, TypeRequest-sync, sendable, crosses) depth 60 fits 20000

pub BulkUpdate-send : IsSend (BulkUpdate.the_field).row
BulkUpdate-send = search (Text-send, Value-send, Items-send, GivenStream-send, Given-send, TypeRequest-send, sendable, crosses) depth 60 fits 20000

pub BulkUpdate-sync : IsSync (BulkUpdate.the_field).row
BulkUpdate-sync = search (Text-sync, Value-sync, Items-sync, GivenStream-sync, Given-sync, TypeRequest-sync, sendable, crosses) depth 60 fits 20000

pub AddRendition-send : IsSend (AddRendition.the_field).row
AddRendition-send = search (Text-send, Value-send, Items-send, GivenStream-send, Given-send, TypeRequest-send, sendable, crosses) depth 60 fits 20000

pub AddRendition-sync : IsSync (AddRendition.the_field).row
AddRendition-sync = search (Text-sync, Value-sync, Items-sync, GivenStream-sync, Given-sync, TypeRequest-sync, sendable, crosses) depth 60 fits 20000

pub Write-send : IsSend (Write.the_field).row
Write-send = search (CreateFolder-send, CreateDocument-send, CheckOut-send, CheckIn-send, SetContent-send, AppendContent-send, DeleteContent-send, MoveObject-send, AddToFolder-send, RemoveFromFolder-send, Delete-send, CancelCheckOut-send, UpdateProperties-send, ApplyAcl-send, CreateType-send, UpdateType-send, DeleteType-send, CreateItem-send, CreatePolicy-send, CreateRelationship-send, CreateDocumentFromSource-send, DeleteTree-send, ApplyPolicy-send, RemovePolicy-send, BulkUpdate-send, AddRendition-send, sendable, crosses) depth 60 fits 20000

pub Write-sync : IsSync (Write.the_field).row
Write-sync = search (CreateFolder-sync, CreateDocument-sync, CheckOut-sync, CheckIn-sync, SetContent-sync, AppendContent-sync, DeleteContent-sync, MoveObject-sync, AddToFolder-sync, RemoveFromFolder-sync, Delete-sync, CancelCheckOut-sync, UpdateProperties-sync, ApplyAcl-sync, CreateType-sync, UpdateType-sync, DeleteType-sync, CreateItem-sync, CreatePolicy-sync, CreateRelationship-sync, CreateDocumentFromSource-sync, DeleteTree-sync, ApplyPolicy-sync, RemovePolicy-sync, BulkUpdate-sync, AddRendition-sync, sendable, crosses) depth 60 fits 20000
