use Rattle.std.proofs.Common.{◌≡◌, [], take, string_bytes}
use Rattle.std.specs.Prelude.{fold}
use Rattle.cm_base.specs.UserLists.{texts_of}
use Rattle.word_files.specs.Lines.{with_line}
use Rattle.word_files.proofs.lines.list_of.Given as goal

abbrev pub invariant-loop-line : goal.invariant-loop-line
invariant-loop-line l = string_bytes l.list ≡ fold with_line [] (texts_of (take l.line-index l.lines))
