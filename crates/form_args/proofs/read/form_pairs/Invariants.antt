use Rattle.std.proofs.Common.{◌≡◌, map, ◌++◌}
use Rattle.form_urlencoded.specs.Form.{pair_text, raw_pairs}
use Rattle.form_urlencoded.specs.Parse.{raw_pairs_left}
use Rattle.form_args.specs.Read.{text_pair}
use Rattle.form_args.proofs.read.form_pairs.Given as goal

abbrev pub invariant-loop-name : goal.invariant-loop-name
invariant-loop-name l =
    (l.list.items ≡ map text_pair (map pair_text l.yielded))
    × (raw_pairs l.text ≡ map pair_text l.yielded ++ raw_pairs_left l.name-iterator)
