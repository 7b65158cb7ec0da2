use Rattle.std.proofs.Common.{◌≡◌, map, take, flat_map, string_bytes}
use Rattle.word_files.specs.Expanding.{options_for}
use Rattle.word_files.proofs.expand.options_by_list.Given as goal

abbrev pub invariant-loop-option : goal.invariant-loop-option
invariant-loop-option l = map string_bytes l.all.items ≡ flat_map (options_for l.list) (map string_bytes (take l.option-index l.options))
