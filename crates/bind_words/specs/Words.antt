-- The actions and selectors that are served, each at its addresses (CMIS 1.1, sections 5.4.2 and 5.4.3).
use Rattle.std.specs.Prelude.{ℕ, List, [], ◌∷◌, Bool, true, false, not, ◌&&◌, ◌||◌, codes, bytes_eq, find, Option, Some, None, Ok, Err}
use Rattle.cm_base.specs.declared.cause.Cause.TheVariants as causes
use Rattle.cm_base.specs.Judged.{Judged, find_or}
use Rattle.request_target.specs.declared.target.Target.{Target}
use Rattle.request_target.specs.declared.target.Target.TheVariants as targets
use Rattle.form_args.specs.declared.pairs.Pair.{Pair}
use Rattle.form_args.specs.Pairs.{first_of}
use Rattle.bind_form.specs.declared.form.Method.{Method}
use Rattle.bind_form.specs.declared.form.Method.TheVariants as methods
use Rattle.bind_words.specs.declared.words.Service.{Service}
use Rattle.bind_words.specs.declared.words.Service.TheVariants as services

-- the word of a service; a reading without a selector has none
abbrev pub word_of : Service → List ℕ
word_of services.CreateFolder = codes "createFolder"
word_of services.CreateDocument = codes "createDocument"
word_of services.CheckOut = codes "checkOut"
word_of services.CheckIn = codes "checkIn"
word_of services.Object = codes "object"
word_of services.Properties = codes "properties"
word_of services.Children = codes "children"
word_of services.Content = codes "content"
word_of services.TypeDefinition = codes "typeDefinition"
word_of services.TypeChildren = codes "typeChildren"
word_of services.TypeDescendants = codes "typeDescendants"
word_of services.Info = codes "repositoryInfo"
word_of services.SetContent = codes "setContent"
word_of services.AppendContent = codes "appendContent"
word_of services.DeleteContent = codes "deleteContent"
word_of services.Versions = codes "versions"
word_of services.Parent = codes "parent"
word_of services.Parents = codes "parents"
word_of services.Move = codes "move"
word_of services.AddToFolder = codes "addObjectToFolder"
word_of services.RemoveFromFolder = codes "removeObjectFromFolder"
word_of services.Policies = codes "policies"
word_of services.Acl = codes "acl"
word_of services.Query = codes "query"
word_of services.Delete = codes "delete"
word_of services.CancelCheckOut = codes "cancelCheckOut"
word_of services.Update = codes "update"
word_of services.ApplyAcl = codes "applyACL"
word_of services.Descendants = codes "descendants"
word_of services.FolderTree = codes "folderTree"
word_of services.CheckedOut = codes "checkedout"
word_of services.Changes = codes "contentChanges"
word_of services.CreateType = codes "createType"
word_of services.UpdateType = codes "updateType"
word_of services.DeleteType = codes "deleteType"
word_of services.CreateItem = codes "createItem"
word_of services.CreatePolicy = codes "createPolicy"
word_of services.CreateRelationship = codes "createRelationship"
word_of services.CreateDocumentFromSource = codes "createDocumentFromSource"
word_of services.DeleteTree = codes "deleteTree"
word_of services.ApplyPolicy = codes "applyPolicy"
word_of services.RemovePolicy = codes "removePolicy"
word_of services.BulkUpdate = codes "bulkUpdate"
word_of services.AddRendition = codes "addRendition"
word_of services.Renditions = codes "renditions"
word_of services.Actions = codes "allowableActions"
word_of services.Relationships = codes "relationships"
word_of services.Default = codes ""

-- an action of a POST; the others are selectors of a GET
abbrev pub is_action : Service → Bool
is_action services.CreateFolder = true
is_action services.CreateDocument = true
is_action services.CheckOut = true
is_action services.CheckIn = true
is_action services.SetContent = true
is_action services.AppendContent = true
is_action services.DeleteContent = true
is_action services.Move = true
is_action services.AddToFolder = true
is_action services.RemoveFromFolder = true
is_action services.Delete = true
is_action services.CancelCheckOut = true
is_action services.Update = true
is_action services.ApplyAcl = true
is_action services.CreateType = true
is_action services.UpdateType = true
is_action services.DeleteType = true
is_action services.CreateItem = true
is_action services.CreatePolicy = true
is_action services.CreateRelationship = true
is_action services.CreateDocumentFromSource = true
is_action services.DeleteTree = true
is_action services.ApplyPolicy = true
is_action services.RemovePolicy = true
is_action services.BulkUpdate = true
is_action services.AddRendition = true
is_action s = false

-- a query may be sent as a form too, since its text may be long
abbrev pub is_query : Service → Bool
is_query services.Query = true
is_query s = false

abbrev pub is_by : Method → Service → Bool
is_by methods.Get s = not (is_action s)
is_by methods.Post s = is_action s || is_query s

-- types, and the repository itself, are no objects
abbrev pub is_of_repository : Service → Bool
is_of_repository services.TypeDefinition = true
is_of_repository services.TypeChildren = true
is_of_repository services.TypeDescendants = true
is_of_repository services.Info = true
is_of_repository services.Changes = true
is_of_repository services.Query = true
is_of_repository services.CreateType = true
is_of_repository services.UpdateType = true
is_of_repository services.DeleteType = true
is_of_repository services.BulkUpdate = true
is_of_repository s = false

-- a document may be made in no folder
abbrev pub is_at_repository : Service → Bool
is_at_repository services.CreateDocument = true
is_at_repository services.CheckedOut = true
is_at_repository services.CreateItem = true
is_at_repository services.CreatePolicy = true
is_at_repository services.CreateRelationship = true
is_at_repository services.CreateDocumentFromSource = true
is_at_repository s = is_of_repository s

-- where a service is served under its word
abbrev pub is_at : Target → Service → Bool
is_at targets.Service s = false
is_at targets.Repository s = is_at_repository s
is_at (targets.Object names) s = not (is_of_repository s)

-- the services that are named by their words
abbrev pub all_services : List Service
all_services =
    services.CreateFolder ∷ services.CreateDocument ∷ services.CheckOut ∷ services.CheckIn
    ∷ services.Object ∷ services.Properties ∷ services.Children ∷ services.Content
    ∷ services.TypeDefinition ∷ services.TypeChildren ∷ services.TypeDescendants ∷ services.Info
    ∷ services.SetContent ∷ services.AppendContent ∷ services.DeleteContent ∷ services.Versions
    ∷ services.Parent ∷ services.Parents ∷ services.Move ∷ services.AddToFolder
    ∷ services.RemoveFromFolder ∷ services.Policies ∷ services.Acl ∷ services.Query
    ∷ services.Delete ∷ services.CancelCheckOut ∷ services.Update ∷ services.ApplyAcl
    ∷ services.Descendants ∷ services.FolderTree ∷ services.CheckedOut ∷ services.Changes
    ∷ services.CreateType ∷ services.UpdateType ∷ services.DeleteType ∷ services.CreateItem
    ∷ services.CreatePolicy ∷ services.CreateRelationship ∷ services.CreateDocumentFromSource ∷ services.DeleteTree
    ∷ services.ApplyPolicy ∷ services.RemovePolicy ∷ services.BulkUpdate ∷ services.AddRendition
    ∷ services.Renditions ∷ services.Actions ∷ services.Relationships ∷ []

-- the word names this service, by this method at this address
abbrev pub is_named : Method → Target → List ℕ → Service → Bool
is_named method target w s = (is_by method s && is_at target s) && bytes_eq (word_of s) w

-- without a selector an object is read by its kind, and the others are told of; an action is always named
abbrev pub unnamed : Method → Target → Judged Service
unnamed methods.Get targets.Service = Ok services.Info
unnamed methods.Get targets.Repository = Ok services.Info
unnamed methods.Get (targets.Object names) = Ok services.Default
unnamed methods.Post target = Err (causes.MissingArgument (codes "cmisaction"))

abbrev pub argument_of : Method → List ℕ
argument_of methods.Get = codes "cmisselector"
argument_of methods.Post = codes "cmisaction"

-- what the word names
abbrev pub named : Method → Target → List ℕ → Judged Service
named method target word = find_or (causes.NotServed word) (find (is_named method target word) all_services)

abbrev pub service_by : Method → Target → Option (List ℕ) → Judged Service
service_by method target None = unnamed method target
service_by method target (Some word) = named method target word

-- what the selector of a GET or the action of a POST names
abbrev pub service_of : Method → Target → List Pair → Judged Service
service_of method target pairs = service_by method target (first_of pairs (argument_of method))
