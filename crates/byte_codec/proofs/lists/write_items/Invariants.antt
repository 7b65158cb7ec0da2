use Rattle.std.proofs.Common.{take}
use Rattle.byte_codec.specs.Runs.{ItemsWritten}
use Rattle.byte_codec.proofs.lists.write_items.Given as goal

abbrev pub invariant-loop-item : goal.invariant-loop-item
invariant-loop-item g l = ItemsWritten g.T.Coded.codec (take l.item-index l.items) l.fn.out.items l.out.items
