use Rattle.std.proofs.Common.{◌≡◌, ◌++◌, take}
use Rattle.type_requests.proofs.placed.add_copies.Given as goal

abbrev pub invariant-loop-def : goal.invariant-loop-def
invariant-loop-def l = l.all ≡ l.initial.all ++ take l.def-index l.defs
