use Rattle.std.proofs.Common.{◌≡◌, ◌++◌, map, take}
use Rattle.std.specs.Prelude.{filter}
use Rattle.form_args.specs.Filter.{has_bytes}
use Rattle.form_args.proofs.filter.add_words.Given as goal

abbrev pub invariant-loop-word : goal.invariant-loop-word
invariant-loop-word l = map (λ x. x.now) l.words.items ≡ map (λ x. x.now) l.fn.words.items ++ filter has_bytes (map (λ x. x.now) (take l.word-index l.more))
