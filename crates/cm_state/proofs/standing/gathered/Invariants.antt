use Rattle.std.proofs.Common.{◌≡◌, map}
use Rattle.std.specs.List.{list_any}
use Rattle.cm_map.specs.Parts.{pointee}
use Rattle.cm_base.specs.declared.number.Oid.{Oid}
use Rattle.cmis_spec.specs.Repository.{same}
use Rattle.cm_state.specs.Looks.{standing_at, has_number}
use Rattle.cm_state.proofs.standing.gathered.Given as goal

abbrev pub invariant-loop-entry : goal.invariant-loop-entry
invariant-loop-entry l = (n : Oid) → list_any (same n) l.numbers ≡ list_any (λ e. has_number n.0 (standing_at l.parts e.1)) (map pointee l.yielded)
