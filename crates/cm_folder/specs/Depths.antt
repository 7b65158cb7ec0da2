-- Folders below another one, and how deep they would stand.
use Rattle.std.specs.Prelude.{ℕ, ◌+◌, ◌-◌, nat_lt, Bool, false, ◌&&◌, List, unwrap_or, option_map}
use Rattle.std.specs.List.{list_any}
use Rattle.cm_base.specs.declared.number.Oid.{Oid}
use Rattle.cmis_spec.specs.Repository.{same, most_levels}
use Rattle.cm_folder.specs.declared.entry.FilingEntry.{FilingEntry}
use Rattle.cm_folder.specs.Filings.{folder_of, folders_up_in, depth_in}

-- the folder is that of the child's first entry
abbrev pub is_first_in : List FilingEntry → Oid → Oid → Bool
is_first_in entries folder child = unwrap_or (option_map (same folder) (folder_of entries child)) false

-- the entry is that of a folder, which would stand more than 48 entries below the root where what is moved stands so deep now, and then in a folder of the depth of the target
abbrev pub is_far : List FilingEntry → ℕ → ℕ → FilingEntry → Bool
is_far entries target moved e = e.is_folder && nat_lt most_levels (target + 1 + (depth_in entries e.child - moved))

-- such an entry is that of the folder, or of one that stands fewer than so many entries below it
abbrev pub has_far : ℕ → List FilingEntry → ℕ → ℕ → Oid → Bool
has_far levels entries target moved folder = list_any (λ e. list_any (same folder) (folders_up_in levels entries e.child) && is_far entries target moved e) entries
