-- What the calls on filing share: what may be filed, the folders that a call names, and the changes of the filing (CMIS 1.1, sections 2.1.5.1 and 2.2.5).
use Rattle.std.specs.Prelude.{ℕ, Bool, false, ◌&&◌, ◌||◌, not, List, [], filter, unwrap_or, option_map}
use Rattle.std.specs.List.{list_any}
use Rattle.cm_base.specs.declared.number.Oid.{Oid}
use Rattle.cm_base.specs.declared.number.Moment.{Moment}
use Rattle.cm_base.specs.declared.object.Object.{Object}
use Rattle.cm_base.specs.declared.access.Level.{Level}
use Rattle.cm_base.specs.declared.access.Level.TheVariants as levels
use Rattle.cm_base.specs.declared.log.ChangeKind.TheVariants as changes
use Rattle.cm_types.specs.declared.definition.BaseType.TheVariants as bases
use Rattle.cmis_spec.specs.Repository.{Repository, same, root, is_a, type_of}
use Rattle.cmis_spec.specs.Access.{is_at_least, level_by_list, read_named}
use Rattle.cmis_spec.specs.Changes.{stepped, noted, without_pair}
use Rattle.cmis_spec.specs.Documents.{is_working_copy}

-- ---- what may be filed

-- folders, documents and items are filed; relationships and policies are not
abbrev pub is_filed_kind : Repository → Object → Bool
is_filed_kind r x = is_a r bases.Folder x || is_a r bases.Document x || is_a r bases.Item x

-- of a type that is fileable, and no working copy
abbrev pub may_be_filed : Repository → Object → Bool
may_be_filed r x = is_filed_kind r x && unwrap_or (option_map (λ t. t.fileable) (type_of r x)) false && not (is_working_copy r x)

-- ---- the folders of a call

-- the number of the folder that the caller reads under this id; where he reads none the call is refused, and the root stands for it
abbrev pub folder_named : Repository → List ℕ → List ℕ → Oid
folder_named r u id = unwrap_or (option_map (λ f. f.id) (read_named r u id)) root

-- by the list of a folder, an item or a series, the caller has less than this level there
abbrev pub lacks_at : Repository → List ℕ → Level → Oid → Bool
lacks_at r u need n = not (is_at_least need (level_by_list r u n))

-- he may not write in one of the folders in which the entry is filed
abbrev pub lacks_anywhere : Repository → List ℕ → Oid → Bool
lacks_anywhere r u n = list_any (λ p. same p.child n && lacks_at r u levels.Write p.folder) r.filed

-- the entry is filed in some folder
abbrev pub is_filed_anywhere : Repository → Oid → Bool
is_filed_anywhere r n = list_any (λ p. same p.child n) r.filed

-- ---- changes

-- the entry is filed in no folder
abbrev pub unfiled : Repository → Oid → Repository
unfiled r n = record r { filed = filter (λ p. not (same p.child n)) r.filed }

-- and out of this folder, where several go one after another
abbrev pub out_of : Oid → Repository → Oid → Repository
out_of n r f = without_pair r f n

-- one step further, with the event that the object of this number was changed
abbrev pub changed_by : Repository → Oid → Moment → ℕ → Repository
changed_by r n m cost = noted (stepped r cost) changes.Updated n m []
