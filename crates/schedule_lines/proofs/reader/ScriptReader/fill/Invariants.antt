use Rattle.std.proofs.Common.{◌≡◌, ◌+◌, ◌-◌, ◌++◌, ℕ, List, false, length}
use Rattle.outside.specs.Outside.{Gave}
use Rattle.schedule_lines.specs.Limits.{longest_line}
use Rattle.schedule_lines.proofs.reader.ScriptReader.fill.Given as goal

abbrev pub invariant-reads : goal.invariant-reads
invariant-reads g l = record {
  number : l.self-inside.number ≡ l.fn.self.number;
  over : l.self-inside.over ≡ false;
  came : (got : List ℕ) × (l.self-inside.ahead ≡ l.fn.self.ahead ++ got) × Gave (g.S.Source.told l.fn.source) (g.S.Source.told l.source) got;
}

abbrev pub decreases-reads : goal.decreases-reads
decreases-reads g l = longest_line + 1 - length l.self-inside.ahead
