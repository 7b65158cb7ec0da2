use Rattle.std.proofs.Common.{◌≡◌, take}
use Rattle.std.specs.List.{flat_map}
use Rattle.cm_state.specs.Looks.{numbers_of_type}
use Rattle.state_rows.proofs.walk.gathered.Given as goal

abbrev pub invariant-loop-kind : goal.invariant-loop-kind
invariant-loop-kind l = l.all ≡ flat_map (numbers_of_type l.state) (take l.kind-index l.kinds)
