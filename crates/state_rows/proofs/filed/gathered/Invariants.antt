use Rattle.std.proofs.Common.{◌≡◌, map}
use Rattle.std.specs.List.{flat_map}
use Rattle.cm_map.specs.Parts.{pointee}
use Rattle.state_rows.specs.Entries.{rows_at}
use Rattle.state_rows.proofs.filed.gathered.Given as goal

abbrev pub invariant-loop-entry : goal.invariant-loop-entry
invariant-loop-entry l = l.all ≡ flat_map (rows_at l.state) (map (λ e. e.1) (map pointee l.yielded))
