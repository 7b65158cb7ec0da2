-- A line that names something, by what its pieces are.
use Rattle.std.proofs.Common.{◌≡◌, ℕ, List, [], ◌∷◌, ◌++◌, subst}
use Rattle.outside.specs.Outside.{SinkTold}
use Rattle.keep_status.specs.Endings.{Told}

pub told_by : (due : ℕ) (a b saying named : List ℕ) (old new : SinkTold) (status : ℕ) → a ≡ saying → b ≡ named
    → Told due (a ++ (b ++ 10 ∷ [])) old new status → Told due (saying ++ (named ++ 10 ∷ [])) old new status
told_by due a b saying named old new status e f t =
    subst (λ (x : List ℕ). Told due (x ++ (named ++ 10 ∷ [])) old new status) e
    (subst (λ (x : List ℕ). Told due (a ++ (x ++ 10 ∷ [])) old new status) f t)
