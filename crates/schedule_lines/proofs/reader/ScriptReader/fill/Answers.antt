use Rattle.std.proofs.Common.{ℕ, List, ◌++◌}
use Rattle.outside.specs.Outside.{Gave}
use Rattle.outside.proofs.Known.{Gave-then}
use Rattle.schedule_lines.proofs.reader.ScriptReader.fill.Goals as goal

pub returns-in-Err-Memory : goal.returns-in-Err-Memory
returns-in-Err-Memory g c =
    let came = c.reads.invariant.came in
    let more : (got : List ℕ) × Gave (g.S.Source.told c.reads.source) (g.S.Source.told c.read_more.new.source) got = rw c.in-Err-Memory.field-0-is at c.in-Err-Memory.ensures in
    (came.0 ++ more.0, Gave-then _ _ _ came.0 more.0 came.2 more.1)
