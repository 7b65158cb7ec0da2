use Rattle.std.proofs.Common.{◌≡◌, map, take}
use Rattle.std.specs.Prelude.{filter}
use Rattle.cm_map.specs.Parts.{pointee}
use Rattle.rd_relationships.specs.ReadRelationships.{is_of_type}
use Rattle.rd_relationships.proofs.relationships.asked_among.Given as goal

abbrev pub invariant-loop-x : goal.invariant-loop-x
invariant-loop-x l = map pointee l.all.items ≡ filter (is_of_type l.types l.q.kind l.q.with_subtypes) (map pointee (take l.x-index l.objects))
