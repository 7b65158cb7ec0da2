use Rattle.std.proofs.Common.{◌≡◌, map, take}
use Rattle.cm_base.specs.UserLists.{texts_of}
use Rattle.word_files.specs.Lines.{is_bad}
use Rattle.word_files.proofs.lines.bads.Given as goal

abbrev pub invariant-loop-line : goal.invariant-loop-line
invariant-loop-line l = l.all.items ≡ map (is_bad l.kind) (texts_of (take l.line-index l.lines))
