use Rattle.std.proofs.Common.{◌≡◌, map, take}
use Rattle.std.specs.List.{filter_map}
use Rattle.cm_map.specs.Parts.{pointee}
use Rattle.cm_relationships.specs.Found.{related_at}
use Rattle.cm_relationships.proofs.found.related.Given as goal

abbrev pub invariant-loop-m : goal.invariant-loop-m
invariant-loop-m l = map pointee l.all.items ≡ filter_map (related_at l.state l.user l.direction l.n) (take l.m-index l.numbers)
