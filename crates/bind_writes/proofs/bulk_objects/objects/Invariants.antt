use Rattle.std.proofs.Common.{◌≡◌, take}
use Rattle.bind_writes.specs.Bulk.{objects_from}
use Rattle.bind_writes.proofs.bulk_objects.objects.Given as goal

abbrev pub invariant-loop-i : goal.invariant-loop-i
invariant-loop-i l = l.all.items ≡ objects_from l.pairs 0 (take l.i l.ids)
