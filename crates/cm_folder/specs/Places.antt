-- Entries by their places, and their indexes.
use Rattle.std.specs.Prelude.{◌≡◌, ℕ, ◌≤◌, Bool, false, List, [], Option, None, Some, map, filter, unwrap_or, option_map, option_and_then, if◌then◌else◌, T}
use Rattle.core.specs.Ordering.{nat_cmp, eq_by_cmp, ordering_then}
use Rattle.core.specs.Cmp.Lexicographic.{slice_cmp}
use Rattle.core.specs.declared.cmp.Ordering.{Ordering}
use Rattle.core.specs.FinMap.Entries.{find, is_sorted}
use Rattle.cm_base.specs.declared.number.Oid.{Oid}
use Rattle.cm_map.specs.Buckets.{find_in}
use Rattle.place_laws.specs.Places.{value_at}
use Rattle.cm_folder.specs.declared.entry.FilingEntry.{FilingEntry}

-- a folder and a name: by the folder's number, then by the name's bytes
abbrev pub name_order : ℕ × List ℕ → ℕ × List ℕ → Ordering
name_order x y = ordering_then (nat_cmp x.0 y.0) (slice_cmp nat_cmp x.1 y.1)

abbrev pub child_key : FilingEntry → ℕ
child_key e = e.child.0

abbrev pub folder_key : FilingEntry → ℕ
folder_key e = e.folder.0

abbrev pub name_key : FilingEntry → ℕ × List ℕ
name_key e = (e.folder.0, e.name)

-- the children under a folder and a name, by their places
abbrev pub names_under : List (ℕ × List (List ℕ × List (ℕ × Oid))) → ℕ × List ℕ → List (ℕ × Oid)
names_under names k = unwrap_or (find_in nat_cmp (slice_cmp nat_cmp) names k.0 k.1) []

abbrev pub find_named : List (ℕ × List (List ℕ × List (ℕ × Oid))) → ℕ × List ℕ → ℕ → Option Oid
find_named names k p = find nat_cmp p (names_under names k)

-- in the place stands the entry of a folder
abbrev pub is_folder_at : List (ℕ × FilingEntry) → ℕ → Bool
is_folder_at entries place = unwrap_or (option_map (λ e. e.is_folder) (find nat_cmp place entries)) false

-- the indexes tell what the entries are
pub record IsIndexed (entries : List (ℕ × FilingEntry)) (by_child by_folder : List (ℕ × List (ℕ × Oid))) (by_name : List (ℕ × List (List ℕ × List (ℕ × Oid)))) : Type 0 where
  pub sorted : T (is_sorted nat_cmp entries)
  -- by child: its folders
  pub children : (c p : ℕ) → find_in nat_cmp nat_cmp by_child c p ≡ value_at nat_cmp child_key (λ e. e.folder) c (find nat_cmp p entries)
  -- by folder: its children
  pub folders : (f p : ℕ) → find_in nat_cmp nat_cmp by_folder f p ≡ value_at nat_cmp folder_key (λ e. e.child) f (find nat_cmp p entries)
  -- by folder and name: the children
  pub names : (k : ℕ × List ℕ) (p : ℕ) → find_named by_name k p ≡ value_at name_order name_key (λ e. e.child) k (find nat_cmp p entries)

pub record IsFiling (entries : List (ℕ × FilingEntry)) (next : ℕ) (by_child by_folder : List (ℕ × List (ℕ × Oid))) (by_name : List (ℕ × List (List ℕ × List (ℕ × Oid)))) : Type 0 where
  -- places are below the next one
  pub below : (p : ℕ) → next ≤ p → find nat_cmp p entries ≡ None
  pub indexed : IsIndexed entries by_child by_folder by_name
