use Rattle.std.proofs.Common.{◌≡◌, ℕ, ◌==◌, map, option_and_then, if◌then◌else◌}
use Rattle.std.specs.List.{list_any}
use Rattle.core.specs.Ordering.{nat_cmp}
use Rattle.core.specs.FinMap.Entries.{find}
use Rattle.cm_map.specs.Parts.{pointee}
use Rattle.cm_folder.specs.Filings.{edit_of}
use Rattle.cm_folder.specs.Places.{IsIndexed}
use Rattle.cm_folder.proofs.parts.Parts.edited_at.Given as goal

abbrev pub invariant-loop-entry : goal.invariant-loop-entry
invariant-loop-entry l = record {
  indexed : IsIndexed l.parts.entries l.parts.by_child l.parts.by_folder l.parts.by_name;
  found : (p : ℕ) → find nat_cmp p l.parts.entries ≡ (if list_any (λ e. p == e.0) (map pointee l.yielded) then option_and_then (edit_of l.edit) (find nat_cmp p l.self.entries) else find nat_cmp p l.self.entries);
}
