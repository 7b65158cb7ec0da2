use Rattle.std.proofs.Common.{◌≡◌, map, take}
use Rattle.std.specs.Prelude.{decimal}
use Rattle.cm_map.specs.Parts.{pointee}
use Rattle.cm_include.proofs.policies.ids_of.Given as goal

abbrev pub invariant-loop-x : goal.invariant-loop-x
invariant-loop-x l = l.ids ≡ map (λ p. decimal p.id.0) (map pointee (take l.x-index l.objects))
