use Rattle.std.proofs.Common.{◌≡◌, map, take}
use Rattle.std.specs.Prelude.{filter}
use Rattle.std.specs.List.{flat_map}
use Rattle.form_args.specs.Filter.{has_bytes, tabs}
use Rattle.form_args.proofs.filter.words_in.Given as goal

abbrev pub invariant-loop-part : goal.invariant-loop-part
invariant-loop-part l = map (λ x. x.now) l.words.items ≡ filter has_bytes (flat_map tabs (map (λ x. x.now) (take l.part-index l.parts)))
