-- The actions on an object, and their names (CMIS 1.1, sections 2.1.12.3 and 2.2.4.7).
use Rattle.std.specs.Prelude.{ℕ, List, [], ◌∷◌, codes}
use Rattle.action_parts.specs.declared.action.Action.{Action}
use Rattle.action_parts.specs.declared.action.Action.TheVariants as actions

-- in byte order of their names
abbrev pub all_actions : List Action
all_actions =
    actions.AddObjectToFolder
    ∷ actions.ApplyAcl
    ∷ actions.ApplyPolicy
    ∷ actions.CancelCheckOut
    ∷ actions.CheckIn
    ∷ actions.CheckOut
    ∷ actions.CreateDocument
    ∷ actions.CreateFolder
    ∷ actions.CreateItem
    ∷ actions.CreateRelationship
    ∷ actions.DeleteContentStream
    ∷ actions.DeleteObject
    ∷ actions.DeleteTree
    ∷ actions.GetAcl
    ∷ actions.GetAllVersions
    ∷ actions.GetAppliedPolicies
    ∷ actions.GetChildren
    ∷ actions.GetContentStream
    ∷ actions.GetDescendants
    ∷ actions.GetFolderParent
    ∷ actions.GetFolderTree
    ∷ actions.GetObjectParents
    ∷ actions.GetObjectRelationships
    ∷ actions.GetProperties
    ∷ actions.GetRenditions
    ∷ actions.MoveObject
    ∷ actions.RemoveObjectFromFolder
    ∷ actions.RemovePolicy
    ∷ actions.SetContentStream
    ∷ actions.UpdateProperties
    ∷ []

-- the name that replies have for it
abbrev pub name_of_action : Action → List ℕ
name_of_action actions.AddObjectToFolder = codes "canAddObjectToFolder"
name_of_action actions.ApplyAcl = codes "canApplyACL"
name_of_action actions.ApplyPolicy = codes "canApplyPolicy"
name_of_action actions.CancelCheckOut = codes "canCancelCheckOut"
name_of_action actions.CheckIn = codes "canCheckIn"
name_of_action actions.CheckOut = codes "canCheckOut"
name_of_action actions.CreateDocument = codes "canCreateDocument"
name_of_action actions.CreateFolder = codes "canCreateFolder"
name_of_action actions.CreateItem = codes "canCreateItem"
name_of_action actions.CreateRelationship = codes "canCreateRelationship"
name_of_action actions.DeleteContentStream = codes "canDeleteContentStream"
name_of_action actions.DeleteObject = codes "canDeleteObject"
name_of_action actions.DeleteTree = codes "canDeleteTree"
name_of_action actions.GetAcl = codes "canGetACL"
name_of_action actions.GetAllVersions = codes "canGetAllVersions"
name_of_action actions.GetAppliedPolicies = codes "canGetAppliedPolicies"
name_of_action actions.GetChildren = codes "canGetChildren"
name_of_action actions.GetContentStream = codes "canGetContentStream"
name_of_action actions.GetDescendants = codes "canGetDescendants"
name_of_action actions.GetFolderParent = codes "canGetFolderParent"
name_of_action actions.GetFolderTree = codes "canGetFolderTree"
name_of_action actions.GetObjectParents = codes "canGetObjectParents"
name_of_action actions.GetObjectRelationships = codes "canGetObjectRelationships"
name_of_action actions.GetProperties = codes "canGetProperties"
name_of_action actions.GetRenditions = codes "canGetRenditions"
name_of_action actions.MoveObject = codes "canMoveObject"
name_of_action actions.RemoveObjectFromFolder = codes "canRemoveObjectFromFolder"
name_of_action actions.RemovePolicy = codes "canRemovePolicy"
name_of_action actions.SetContentStream = codes "canSetContentStream"
name_of_action actions.UpdateProperties = codes "canUpdateProperties"
