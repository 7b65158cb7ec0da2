use Rattle.std.proofs.Common.{◌≡◌, map}
use Rattle.std.specs.List.{list_any}
use Rattle.cm_map.specs.Parts.{pointee}
use Rattle.cmis_spec.specs.Repository.{is_taken}
use Rattle.wr_version.proofs.after.is_taken_among.Given as goal

abbrev pub invariant-loop-entry : goal.invariant-loop-entry
invariant-loop-entry l = l.found ≡ list_any (λ e. is_taken l.state e.1 l.n l.name) (map pointee l.yielded)
