use Rattle.std.proofs.Common.{◌<◌, length, arith, length-drop}
use Rattle.outside.proofs.Reading.{told, reads_more, reads_end}
use Rattle.outside.proofs.mem_source.MemSourceSource.read.Goals as goal

pub invariant_of-self-then-count-eq0 : goal.invariant_of-self-then-count-eq0
invariant_of-self-then-count-eq0 c =
    let n = length-drop c.self.inside.at c.self.inside.bytes.items in (omega arith, λ _. omega arith)

pub returns-then-count-eq0-clause-bytes : goal.returns-then-count-eq0-clause-bytes
unfolding told
returns-then-count-eq0-clause-bytes c =
    rw (← c.self.view_is)
    (reads_end c.self.inside.bytes.items c.self.inside.at c.fill-count.result (length c.args.room.now) c.self.inside.faults c.self.inside.ended _
    c.requires c.fill-count.ensures.count c.if-count-eq0.true)

pub returns-else-count-eq0-clause-bytes : goal.returns-else-count-eq0-clause-bytes
unfolding told
returns-else-count-eq0-clause-bytes c =
    let more : 0 < c.fill-count.result = omega arith in
    rw (← c.self.view_is)
    (reads_more c.self.inside.bytes.items c.self.inside.at c.fill-count.result (length c.args.room.now) c.self.inside.faults c.self.inside.ended _
    c.self.invariant.1 c.fill-count.ensures.count more c.fill-count.ensures.bytes)
