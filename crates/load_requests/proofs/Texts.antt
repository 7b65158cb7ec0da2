-- A text that is one is also the other, where both are the same.
use Rattle.std.specs.Prelude.{◌≡◌, ℕ, List, Result, IfOk, string_bytes}
use Rattle.std.proofs.Common.{sym, String, Global}

pub told : {E : Type 0} (r : Result (String Global) E) (a b : List ℕ) → IfOk r (λ s. string_bytes s ≡ a) → a ≡ b → IfOk r (λ s. string_bytes s ≡ b)
told r a b h e = rw (sym e) h
