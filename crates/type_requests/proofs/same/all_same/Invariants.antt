use Rattle.std.proofs.Common.{◌≡◌, take}
use lib.Pointwise.{pointwise}
use Rattle.type_requests.proofs.same.all_same.Given as goal

abbrev pub invariant-loop-i : goal.invariant-loop-i
invariant-loop-i g l = l.same ≡ pointwise g.T.Same.same (take l.i l.a) (take l.i l.b)
