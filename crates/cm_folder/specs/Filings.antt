-- The filing of a repository as the list of its entries in the order in which they were made (CMIS 1.1, section 2.1.5).
use Rattle.std.specs.Prelude.{ℕ, ◌+◌, ◌-◌, nat_lt, Bool, ◌&&◌, not, if◌then◌else◌, List, [], ◌∷◌, ◌++◌, map, filter, find, length, Option, Some, None, unwrap_or, option_map, bytes_eq, Ok}
use Rattle.std.specs.List.{list_any}
use Rattle.cm_base.specs.declared.number.Oid.{Oid}
use Rattle.cm_base.specs.declared.filing.Filed.{Filed}
use Rattle.cm_base.specs.declared.cause.Cause.TheVariants as causes
use Rattle.cm_base.specs.Judged.{Judged, ◌>>◌, refuse}
use Rattle.cmis_spec.specs.Repository.{same, most_levels, levels_up, parent_in, upwards, path_over}
use Rattle.cm_folder.specs.declared.entry.FilingEntry.{FilingEntry}
use Rattle.cm_folder.specs.declared.edit.Edit.{Edit}
use Rattle.cm_folder.specs.declared.edit.Edit.TheVariants as edits

-- ---- what is looked up

-- the filing pair of an entry
abbrev pub pair_of : FilingEntry → Filed
pair_of e = record { folder = e.folder; child = e.child }

abbrev pub pairs_of : List FilingEntry → List Filed
pairs_of entries = map pair_of entries

abbrev pub is_entry : Oid → Oid → FilingEntry → Bool
is_entry folder child e = same e.folder folder && same e.child child

abbrev pub is_filed_in : List FilingEntry → Oid → Oid → Bool
is_filed_in entries folder child = list_any (is_entry folder child) entries

-- another child of the folder has the name
abbrev pub is_name_taken : List FilingEntry → Oid → Oid → List ℕ → Bool
is_name_taken entries folder but name = list_any (λ e. same e.folder folder && not (same e.child but) && bytes_eq e.name name) entries

-- the first child of the folder that has the name
abbrev pub child_named : List FilingEntry → Oid → List ℕ → Option Oid
child_named entries folder name = option_map (λ e. e.child) (find (λ e. same e.folder folder && bytes_eq e.name name) entries)

abbrev pub children_in : List FilingEntry → Oid → List Oid
children_in entries folder = map (λ e. e.child) (filter (λ e. same e.folder folder) entries)

abbrev pub folders_in : List FilingEntry → Oid → List Oid
folders_in entries child = map (λ e. e.folder) (filter (λ e. same e.child child) entries)

-- the folder of a child's first entry; a folder has one entry, and the root none
abbrev pub folder_of : List FilingEntry → Oid → Option Oid
folder_of entries child = parent_in (pairs_of entries) child

-- the name of a child's first entry
abbrev pub name_in : List FilingEntry → Oid → List ℕ
name_in entries child = unwrap_or (option_map (λ e. e.name) (find (λ e. same e.child child) entries)) []

-- the name of a child in one of its folders
abbrev pub name_under : List FilingEntry → Oid → Oid → List ℕ
name_under entries folder child = unwrap_or (option_map (λ e. e.name) (find (is_entry folder child) entries)) []

-- a folder and those above it, up to the root
abbrev pub folders_up_in : ℕ → List FilingEntry → Oid → List Oid
folders_up_in n entries f = upwards n (pairs_of entries) f

-- how many entries lie between the root and a folder
abbrev pub depth_in : List FilingEntry → Oid → ℕ
depth_in entries f = length (folders_up_in levels_up entries f) - 1

-- the folder is the top one, or stands below it
abbrev pub is_under_in : List FilingEntry → Oid → Oid → Bool
is_under_in entries f top = list_any (same top) (folders_up_in levels_up entries f)

abbrev pub path_in : List FilingEntry → Oid → List ℕ
path_in entries f = path_over (folder_of entries) (name_in entries) f

-- ---- a child more in a folder

abbrev pub filed_with : List FilingEntry → FilingEntry → List FilingEntry
filed_with entries e = entries ++ e ∷ []

-- ---- a child taken out of a folder

abbrev pub unfiled : List FilingEntry → Oid → Oid → List FilingEntry
unfiled entries folder child = filter (λ e. not (is_entry folder child e)) entries

-- ---- a child moved from one folder to another

-- the entry is that of the child or of a folder below it, and this folder would stand more than 48 entries below the root
abbrev pub is_too_deep : List FilingEntry → Oid → Oid → FilingEntry → Bool
is_too_deep entries child target e =
    e.is_folder && is_under_in entries e.child child && nat_lt most_levels (depth_in entries target + 1 + (depth_in entries e.child - depth_in entries child))

abbrev pub refusal_place : List FilingEntry → Oid → Oid → Oid → Judged (Unit {0})
refusal_place entries child source target = do
  refuse causes.AlreadyFiled (is_filed_in entries target child)
  refuse causes.Below (is_under_in entries target child)
  refuse causes.Deep (list_any (is_too_deep entries child target) entries)
  refuse causes.NameTaken (is_name_taken entries target child (name_under entries source child))

-- a child that is moved onto its own folder stays
abbrev pub refusal_shift : List FilingEntry → Oid → Oid → Oid → Judged (Unit {0})
refusal_shift entries child source target = do
  refuse causes.NotFiled (not (is_filed_in entries source child))
  if same source target then Ok tt else refusal_place entries child source target

abbrev pub in_folder : Oid → FilingEntry → FilingEntry
in_folder folder e = record { folder = folder; child = e.child; is_folder = e.is_folder; name = e.name }

abbrev pub shifted : List FilingEntry → Oid → Oid → Oid → List FilingEntry
shifted entries child source target = map (λ e. if is_entry source child e then in_folder target e else e) entries

-- ---- what is told of a child, told anew

abbrev pub told : Bool → List ℕ → FilingEntry → FilingEntry
told is_folder name e = record { folder = e.folder; child = e.child; is_folder = is_folder; name = name }

abbrev pub retold : List FilingEntry → Oid → Bool → List ℕ → List FilingEntry
retold entries child is_folder name = map (λ e. if same e.child child then told is_folder name e else e) entries

-- ---- what the changes make of an entry of the child, or none

abbrev pub edit_of : Edit → FilingEntry → Option FilingEntry
edit_of (edits.TakeOut folder) e = if same e.folder folder then None else Some e
edit_of (edits.Place source target) e = Some (if same e.folder source then in_folder target e else e)
edit_of (edits.Tell is_folder name) e = Some (told is_folder name e)

abbrev pub edit_child : Edit → Oid → FilingEntry → Option FilingEntry
edit_child edit child e = if same e.child child then edit_of edit e else Some e
