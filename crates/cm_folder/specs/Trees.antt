-- The tree of folders (CMIS 1.1, section 2.1.5.2).
use Rattle.std.specs.Prelude.{◌≡◌, ◌≤◌, Bool, true, ◌&&◌, ◌⊎◌, List, All, None, count_by}
use Rattle.std.specs.List.{list_any}
use Rattle.cm_base.specs.declared.number.Oid.{Oid}
use Rattle.cmis_spec.specs.Repository.{same, root}
use Rattle.cmis_spec.specs.Well.{HasWay}
use Rattle.cm_folder.specs.declared.entry.FilingEntry.{FilingEntry}
use Rattle.cm_folder.specs.Filings.{pairs_of, folder_of}

-- a child that is filed as a folder
abbrev pub is_folder_in : List FilingEntry → Oid → Bool
is_folder_in entries f = list_any (λ e. e.is_folder && same e.child f) entries

abbrev pub IsFolderAt : List FilingEntry → Oid → Type 0
IsFolderAt entries f = (f ≡ root) ⊎ (is_folder_in entries f ≡ true)

-- the root is filed nowhere, none but the root and folders have children, and each folder stands in one entry and leads up to the root in at most 48
pub record IsTree (entries : List FilingEntry) : Type 0 where
  pub root : folder_of entries root ≡ None
  pub parents : All (λ e. IsFolderAt entries e.folder) entries
  pub one : All (λ e. e.is_folder ≡ true → count_by (λ p. same p.child e.child) (pairs_of entries) ≤ 1) entries
  pub ways : All (λ e. e.is_folder ≡ true → HasWay (pairs_of entries) e.child) entries
