use Rattle.std.proofs.Common.{◌≡◌, ◌-◌}
use Rattle.byte_codec.specs.Runs.{items_reads}
use Rattle.byte_codec.proofs.ItemLaws.{with_front}
use Rattle.byte_codec.proofs.lists.read_items.Given as goal

abbrev pub invariant-loop : goal.invariant-loop
invariant-loop g l = with_front l.items (items_reads g.T.Coded.codec (l.count - l.counter) l.from) ≡ items_reads g.T.Coded.codec l.count l.fn.from
