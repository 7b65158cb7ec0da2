use Rattle.std.proofs.Common.{◌≡◌, ◌++◌, ◌-◌, length}
use Rattle.form_args.specs.Pairs.{texts_of, texts_from}
use Rattle.form_args.proofs.lists.texts.Given as goal

abbrev pub invariant-loop-i : goal.invariant-loop-i
invariant-loop-i l = texts_of l.pairs l.name ≡ l.values.items ++ texts_from l.pairs l.name (length l.pairs - l.i) l.i
