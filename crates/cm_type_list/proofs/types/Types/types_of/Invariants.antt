use Rattle.std.proofs.Common.{◌≡◌, ◌++◌, [], fold, map, reverse, take}
use Rattle.std.specs.List.{flat_map}
use Rattle.cm_map.specs.Parts.{pointee}
use Rattle.cm_types.specs.Types.{chain}
use Rattle.cm_type_list.specs.Firsts.{with_first}
use Rattle.cm_type_list.proofs.types.Types.types_of.Given as goal

abbrev pub invariant-loop-other : goal.invariant-loop-other
invariant-loop-other l = map pointee l.types.items
    ≡ fold with_first [] (reverse (chain l.self l.id) ++ flat_map (λ s. reverse (chain l.self s)) (take l.other-index l.secondaries))
