use Rattle.std.proofs.Common.{◌≡◌, map, take, string_bytes}
use Rattle.word_files.proofs.expand.copies.Given as goal

abbrev pub invariant-loop-word : goal.invariant-loop-word
invariant-loop-word l = map string_bytes l.all.items ≡ map string_bytes (take l.word-index l.words)
