use Rattle.std.proofs.Common.{◌≡◌, take}
use Rattle.form_args.specs.Entries.{aces_from}
use Rattle.form_args.proofs.entries.aces_by.Given as goal

abbrev pub invariant-loop-i : goal.invariant-loop-i
invariant-loop-i l = l.aces.items ≡ aces_from l.pairs l.permission 0 (take l.i l.principals)
