-- A byte that says none of the calls.
use Rattle.std.proofs.Common.{◌≡◌, ℕ, zero, suc, ◌<◌, ◌≤◌, List, [], ◌∷◌, Option, Some, None, refl, ap, ◌∙◌, arith, ◌⊎◌, inl, inr}
use Rattle.byte_codec.specs.Codecs.{◌>>=◌, Codec}
use Rattle.byte_codec.specs.Parts.{moved, via_reads}
use Rattle.byte_codec.specs.Choices.{Choice, tagged}
use Rattle.write_codec.specs.Writes.{write_of, call, alternatives}

none_unless : {A : Type 0} (r : Option A) → ((x : A) → r ≡ Some x → ⊥) → r ≡ None
none_unless (Some x) h = absurd (h x refl)
none_unless None h = refl

past : {A : Type 0} (c : Choice A) (n : ℕ) (bytes : List ℕ) → c.count ≤ n → c.reads n bytes ≡ None
past c n bytes le = none_unless (c.reads n bytes) (λ p e. let s = c.only n bytes p e in let b = c.below p.0 in let z : c.place p.0 ≡ n = s.0 in omega (arith, b, z, le))

pub wrong_tag : {A B : Type 0} (g : A → B) (c : Choice A) (b : ℕ) (rest : List ℕ) → ¬ ((0 < b) × (b ≤ c.count)) → via_reads g (tagged c) (b ∷ rest) ≡ None
wrong_tag g c zero rest h = refl
wrong_tag {A = A} g c (suc n) rest h =
    let le : c.count ≤ n = grind (arith, h) in
    ap (λ (r : Option (A × List ℕ)). r >>= λ p. Some (moved g p)) (past c n rest le)

pub no_call : (tag : ℕ) (old : List ℕ) → ¬ ((0 < tag) × (tag ≤ 26)) → call.reads (tag ∷ old) ≡ None
no_call tag old h = wrong_tag write_of alternatives tag old h
