use Rattle.std.proofs.Common.{◌≡◌, map, filter}
use Rattle.cm_map.specs.Parts.{pointee}
use Rattle.cmis_spec.specs.Seen.{is_read}
use Rattle.state_rows.proofs.folders.read_among.Given as goal

abbrev pub invariant-loop-entry : goal.invariant-loop-entry
invariant-loop-entry l = l.all ≡ filter (is_read l.state l.user) (map (λ e. e.1) (map pointee l.yielded))
