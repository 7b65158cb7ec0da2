-- Where a file may end.
use Rattle.std.proofs.Common.{ℕ, ◌≤◌, List, [], ◌∷◌, arith}
use Rattle.disk.specs.Crashes.{farthest}

-- nothing ends before the end of what was synced
pub farthest_least : (end : ℕ) (ranges : List (ℕ × ℕ)) → end ≤ farthest end ranges
farthest_least end [] = omega arith
farthest_least end (range ∷ ranges) = omega (arith, farthest_least end ranges)
