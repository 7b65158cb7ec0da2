-- The actions that a caller is allowed on an object (CMIS 1.1, section 2.2.4.7): the table of this project's profile.
use Rattle.std.specs.Prelude.{ℕ, Bool, true, false, ◌&&◌, ◌||◌, not, List, map, is_some, unwrap_or, option_map, bytes_eq, codes}
use Rattle.std.specs.Result.{is_ok}
use Rattle.cm_base.specs.declared.object.Object.{Object}
use Rattle.cm_base.specs.declared.access.Level.TheVariants as levels
use Rattle.cm_types.specs.declared.definition.TypeDef.{TypeDef}
use Rattle.cm_types.specs.declared.definition.BaseType.TheVariants as bases
use Rattle.action_parts.specs.declared.action.Action.{Action}
use Rattle.action_parts.specs.declared.action.Action.TheVariants as actions
use Rattle.action_parts.specs.declared.replies.ActionFlag.{ActionFlag}
use Rattle.action_parts.specs.Actions.{all_actions}
use Rattle.cm_actions.specs.declared.grounds.Rights.{Rights}
use Rattle.cm_actions.specs.declared.grounds.Kind.{Kind}
use Rattle.cm_actions.specs.declared.grounds.Rules.{Rules}
use Rattle.cm_actions.specs.declared.grounds.Stage.{Stage}
use Rattle.cm_actions.specs.declared.grounds.Grounds.{Grounds}
use Rattle.cm_state.specs.Looks.{content_at}
use Rattle.cm_see.specs.Shown.{is_latest_version}
use Rattle.cmis_spec.specs.Repository.{Repository, same, root, is_a, type_of, entry_of}
use Rattle.cmis_spec.specs.Access.{is_at_least, level_by_list, level_of_caller}
use Rattle.cmis_spec.specs.Documents.{is_working_copy, judge_changeable}
use Rattle.cmis_spec.specs.Retention.{is_under_hold}
use Rattle.wr_rules.specs.Documents.{bars_content, needs_content, is_versionable, is_checked_out}

-- ---- on what the actions depend

-- what the caller may do at the object; its access list, or that of its series, counts alone where the list itself is to be changed
abbrev pub rights_of : Repository → List ℕ → Object → Rights
rights_of r u x = record {
  write = is_at_least levels.Write (level_of_caller r u x);
  all = is_at_least levels.All (level_of_caller r u x);
  list = is_at_least levels.All (level_by_list r u (entry_of x));
  named = not (bytes_eq u (codes "anonymous"));
}

-- what kind of object it is
abbrev pub kind_of : Repository → Object → Kind
kind_of r x = record {
  root = same x.id root;
  folder = is_a r bases.Folder x;
  document = is_a r bases.Document x;
  relationship = is_a r bases.Relationship x;
}

-- its type says so
abbrev pub by_type : Repository → Object → (TypeDef → Bool) → Bool
by_type r x rule = unwrap_or (option_map rule (type_of r x)) false

-- what its type allows
abbrev pub rules_of : Repository → Object → Rules
rules_of r x = record {
  fileable = by_type r x (λ t. t.fileable);
  versionable = is_versionable r x;
  bars_content = by_type r x bars_content;
  needs_content = by_type r x needs_content;
  policies = by_type r x (λ t. t.controllable_policy);
  access = by_type r x (λ t. t.controllable_acl);
}

-- where it stands among the versions of its series, whether it has content, and whether a hold names it
abbrev pub stage_of : Repository → Object → Stage
stage_of r x = record {
  working = is_working_copy r x;
  latest = is_latest_version r x;
  checked_out = is_checked_out r x;
  changeable = is_ok (judge_changeable r x);
  filled = is_some (content_at r x.id);
  held = is_under_hold r x;
}

abbrev pub grounds_of : Repository → List ℕ → Object → Grounds
grounds_of r u x = record { rights = rights_of r u x; kind = kind_of r x; rules = rules_of r x; stage = stage_of r x }

-- ---- the table

-- of a type that is fileable, and no working copy
abbrev pub is_filed_kind : Grounds → Bool
is_filed_kind g = g.rules.fileable && not g.stage.working

-- a working copy, or what is in no series that is checked out
abbrev pub is_free : Grounds → Bool
is_free g = g.stage.working || not g.stage.checked_out

-- one line an action
abbrev pub allows : Grounds → Action → Bool
allows g actions.AddObjectToFolder = g.rights.write && is_filed_kind g && not g.kind.folder
allows g actions.ApplyAcl = g.rights.list && g.rules.access
allows g actions.ApplyPolicy = g.rights.write && g.rules.policies
allows g actions.CancelCheckOut = g.stage.working && g.rights.write
allows g actions.CheckIn = g.stage.working && g.rights.write
allows g actions.CheckOut = g.kind.document && g.rights.write && g.rules.versionable && g.stage.latest && not g.stage.checked_out
allows g actions.CreateDocument = g.kind.folder && g.rights.write
allows g actions.CreateFolder = g.kind.folder && g.rights.write
allows g actions.CreateItem = g.kind.folder && g.rights.write
allows g actions.CreateRelationship = not g.kind.relationship && g.rights.named
allows g actions.DeleteContentStream = g.kind.document && g.rights.write && g.stage.changeable && not g.stage.held && g.stage.filled && not g.rules.needs_content
allows g actions.DeleteObject = g.rights.all && not g.kind.root && not g.stage.held && is_free g
allows g actions.DeleteTree = g.kind.folder && g.rights.all && not g.kind.root
allows g actions.GetAcl = true
allows g actions.GetAllVersions = g.kind.document
allows g actions.GetAppliedPolicies = true
allows g actions.GetChildren = g.kind.folder
allows g actions.GetContentStream = g.kind.document && g.stage.filled
allows g actions.GetDescendants = g.kind.folder
allows g actions.GetFolderParent = g.kind.folder && not g.kind.root
allows g actions.GetFolderTree = g.kind.folder
allows g actions.GetObjectParents = g.rules.fileable
allows g actions.GetObjectRelationships = true
allows g actions.GetProperties = true
allows g actions.GetRenditions = true
allows g actions.MoveObject = g.rights.write && is_filed_kind g && not g.kind.root
allows g actions.RemoveObjectFromFolder = g.rights.write && is_filed_kind g && not g.kind.folder
allows g actions.RemovePolicy = g.rights.write && g.rules.policies
allows g actions.SetContentStream = g.kind.document && g.rights.write && g.stage.changeable && not g.stage.held && not g.rules.bars_content
allows g actions.UpdateProperties = g.rights.write && g.stage.changeable

-- ---- the actions of the caller

-- he may do this action at the object
abbrev pub is_allowed : Repository → List ℕ → Action → Object → Bool
is_allowed r u action x = allows (grounds_of r u x) action

abbrev pub flag_of : Grounds → Action → ActionFlag
flag_of g action = record { action = action; is_allowed = allows g action }

-- each action, and whether he may do it
abbrev pub actions_of : Repository → List ℕ → Object → List ActionFlag
actions_of r u x = map (flag_of (grounds_of r u x)) all_actions
