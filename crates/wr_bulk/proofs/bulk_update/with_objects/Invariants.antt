use Rattle.std.proofs.Common.{◌≡◌, [], take}
use Rattle.std.specs.Prelude.{fold}
use Rattle.wr_bulk.specs.BulkUpdate.{with_object}
use Rattle.wr_bulk.specs.Parts.{AsksOfOne}
use Rattle.wr_bulk.proofs.bulk_update.with_objects.Given as goal

abbrev pub invariant-loop-object : goal.invariant-loop-object
invariant-loop-object l = (l.so_far ≡ fold (with_object l.user l.moment l.call) (l.fn.begun, []) (take l.object-index l.object-items)) × AsksOfOne l.call l.asked
