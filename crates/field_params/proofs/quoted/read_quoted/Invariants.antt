use Rattle.std.proofs.Common.{◌≡◌, false, drop}
use Rattle.field_params.specs.Params.{quoted}
use Rattle.field_params.proofs.Quotes.{before}
use Rattle.field_params.proofs.quoted.read_quoted.Given as goal

abbrev pub invariant-loop-i : goal.invariant-loop-i
invariant-loop-i l = quoted false l.text ≡ before l.value.items (quoted l.escaped (drop l.i l.text))
