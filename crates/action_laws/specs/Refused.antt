-- An action that is shown on an object, and the call that it names (CMIS 1.1, section 2.2.4.7): where the action is not allowed the call is refused,
-- and where it is allowed, it is refused by none of the causes that stand for the action.
use Rattle.std.specs.Prelude.{◌≡◌, ◌≢◌, ℕ, Bool, true, false, ◌&&◌, not, List, [], ◌∷◌, All, Option, Some, None, Err, is_err, unwrap_or, option_map, option_and_then, codes}
use Rattle.std.specs.List.{list_any}
use Rattle.cm_base.specs.declared.access.Level.TheVariants as levels
use Rattle.cm_base.specs.declared.cause.Cause.{Cause}
use Rattle.cm_base.specs.declared.cause.Cause.TheVariants as causes
use Rattle.cm_base.specs.declared.object.Object.{Object}
use Rattle.cm_base.specs.Judged.{Judged}
use Rattle.call_parts.specs.declared.place.Place.{Place}
use Rattle.call_parts.specs.declared.versions.Delete.{Delete}
use Rattle.action_parts.specs.declared.action.Action.{Action}
use Rattle.action_parts.specs.declared.action.Action.TheVariants as actions
use Rattle.create_parts.specs.declared.writes.CreateRelationship.{CreateRelationship}
use Rattle.cm_see.specs.Addressed.{addressed}
use Rattle.cm_actions.specs.Allowed.{is_allowed}
use Rattle.cmis_spec.specs.Repository.{Repository, same, entry_of}
use Rattle.cmis_spec.specs.Access.{lacks, read_named}
use Rattle.wr_rules.specs.Retained.{is_held_at}
use Rattle.wr_filing.specs.Filing.{lacks_anywhere}
use Rattle.wr_relationship.specs.CreateRelationship.{first_given, is_relationship}
use Rattle.wr_remove.specs.Delete.{doomed}

-- a cause comes
abbrev pub IsRefused : {B : Type 0} → Judged B → Type 0
IsRefused judged = is_err judged ≡ true

-- the caller reads the object that is addressed, and may not do the action on it
pub record IsBarred (r : Repository) (u : List ℕ) (place : Place) (action : Action) : Type 0 where
  pub object : Object
  pub found : addressed r u place ≡ Some object
  pub barred : is_allowed r u action object ≡ false

-- the caller reads the object that is addressed, and may do the action on it
pub record MayDo (r : Repository) (u : List ℕ) (place : Place) (action : Action) : Type 0 where
  pub object : Object
  pub found : addressed r u place ≡ Some object
  pub allowed : is_allowed r u action object ≡ true

-- ---- the causes of an action

-- those for which the action's line of the table stands; five actions are always allowed
abbrev pub causes_of : Action → List Cause
causes_of actions.AddObjectToFolder = causes.Denied ∷ causes.NotFileable ∷ causes.OneParent ∷ []
causes_of actions.ApplyAcl = causes.Denied ∷ causes.NotControllable ∷ []
causes_of actions.ApplyPolicy = causes.Denied ∷ causes.NotControllable ∷ []
causes_of actions.CancelCheckOut = causes.Denied ∷ causes.WrongKind ∷ causes.NotWorking ∷ []
causes_of actions.CheckIn = causes.Denied ∷ causes.WrongKind ∷ causes.NotWorking ∷ []
causes_of actions.CheckOut = causes.Denied ∷ causes.WrongKind ∷ causes.NotVersionable ∷ causes.CheckedOut ∷ causes.NotLatest ∷ []
causes_of actions.CreateDocument = causes.Denied ∷ causes.WrongKind ∷ []
causes_of actions.CreateFolder = causes.Denied ∷ causes.WrongKind ∷ []
causes_of actions.CreateItem = causes.Denied ∷ causes.WrongKind ∷ []
causes_of actions.CreateRelationship = causes.Denied ∷ causes.EndKind ∷ []
causes_of actions.DeleteContentStream = causes.Denied ∷ causes.WrongKind ∷ causes.NotLatest ∷ causes.CheckedOut ∷ causes.ContentRequired ∷ causes.Held ∷ []
causes_of actions.DeleteObject = causes.Denied ∷ causes.RootFixed ∷ causes.CheckedOut ∷ causes.Held ∷ []
causes_of actions.DeleteTree = causes.Denied ∷ causes.WrongKind ∷ causes.RootFixed ∷ []
causes_of actions.GetAcl = []
causes_of actions.GetAllVersions = causes.WrongKind ∷ []
causes_of actions.GetAppliedPolicies = []
causes_of actions.GetChildren = causes.WrongKind ∷ []
causes_of actions.GetContentStream = causes.WrongKind ∷ causes.NoContent ∷ []
causes_of actions.GetDescendants = causes.WrongKind ∷ []
causes_of actions.GetFolderParent = causes.WrongKind ∷ causes.RootParent ∷ []
causes_of actions.GetFolderTree = causes.WrongKind ∷ []
causes_of actions.GetObjectParents = causes.NotFileable ∷ []
causes_of actions.GetObjectRelationships = []
causes_of actions.GetProperties = []
causes_of actions.GetRenditions = []
causes_of actions.MoveObject = causes.Denied ∷ causes.NotFileable ∷ causes.RootFixed ∷ []
causes_of actions.RemoveObjectFromFolder = causes.Denied ∷ causes.NotFileable ∷ causes.OneParent ∷ []
causes_of actions.RemovePolicy = causes.Denied ∷ []
causes_of actions.SetContentStream = causes.Denied ∷ causes.WrongKind ∷ causes.NotLatest ∷ causes.CheckedOut ∷ causes.StreamNot ∷ causes.Held ∷ []
causes_of actions.UpdateProperties = causes.Denied ∷ causes.NotLatest ∷ causes.CheckedOut ∷ []

-- no cause of the action comes
abbrev pub NoneComes : {B : Type 0} → Action → Judged B → Type 0
NoneComes action judged = All (λ c. judged ≢ Err c) (causes_of action)

-- of the causes of the action this one alone comes, and only where it is said of something else that the call names
abbrev pub OnlyComes : {B : Type 0} → Action → Cause → Bool → Judged B → Type 0
OnlyComes action other elsewhere judged = All (λ c. judged ≡ Err c → (c ≡ other) × (elsewhere ≡ true)) (causes_of action)

-- ---- what else a call names

-- the caller may not write in the object of this id, which he reads
abbrev pub lacks_named : Repository → List ℕ → List ℕ → Bool
lacks_named r u id = unwrap_or (option_map (lacks r u levels.Write) (read_named r u id)) false

-- he may not write in the folder of this id or, where none is given, in one of those in which the object is filed
abbrev pub lacks_out_of : Repository → List ℕ → Object → Option (List ℕ) → Bool
lacks_out_of r u x None = lacks_anywhere r u (entry_of x)
lacks_out_of r u x (Some id) = lacks_named r u id

-- another version that would go with the object is under a hold
abbrev pub is_another_held : Repository → Delete → Object → Bool
is_another_held r call x = list_any (λ n. not (same n x.id) && is_held_at r n) (doomed r call x)

-- the ids of the objects between which a relationship is to stand
abbrev pub source_in : CreateRelationship → Option (List ℕ)
source_in call = first_given call.object.properties (codes "cmis:sourceId")

abbrev pub target_in : CreateRelationship → Option (List ℕ)
target_in call = first_given call.object.properties (codes "cmis:targetId")

-- what the caller reads under this id is a relationship
abbrev pub names_relationship : Repository → List ℕ → Option (List ℕ) → Bool
names_relationship r u id = is_relationship r (option_and_then (read_named r u) id)
