-- A read from memory that gave some bytes.
use Rattle.std.proofs.Common.{◌≡◌, ◌++◌, ◌∙◌, ◌+◌, ◌≤◌, ◌<◌, ℕ, List, [], ◌∷◌, length, Some, true, false, Bool, take, drop, min, refl, sym, if◌then◌else◌, arith, length-drop, ap, append-nil}
use Rattle.std.proofs.Math.Seq.{take-add}
use Rattle.std.proofs.lemmas.List.{take-append-drop, drop-drop}
use Rattle.outside.specs.Outside.{ReadsBytes, SourceTold}

unfoldable pub told : List ℕ → ℕ → Bool → ℕ → SourceTold
told bytes at ended faults = record { left = Some (if ended then [] else drop at bytes); given = Some (take at bytes); ended = ended; faults = faults }

not_ended : (bytes : List ℕ) (at n room : ℕ) (ended : Bool) → (ended ≡ true → length bytes ≤ at)
    → n ≡ min room (length (drop at bytes)) → 0 < n → ended ≡ false
not_ended bytes at n room false done e more = refl
not_ended bytes at n room true done e more =
    let h : length bytes ≤ at = done refl in absurd (omega (arith, length-drop at bytes))

pub reads_more : (bytes : List ℕ) (at n room f : ℕ) (ended : Bool) (got : List ℕ) → (ended ≡ true → length bytes ≤ at)
    → n ≡ min room (length (drop at bytes)) → 0 < n → got ≡ take n (drop at bytes)
    → ReadsBytes (told bytes at ended f) (told bytes (at + n) ended f) got n
unfolding told
reads_more bytes at n room f ended got done count more e =
    let no : ended ≡ false = not_ended bytes at n room ended done count more in
    rw (no, e) (record {
      left = ap Some (sym (ap (λ t. take n (drop at bytes) ++ t) (sym (drop-drop n at bytes)) ∙ take-append-drop n (drop at bytes)));
      given = ap Some (take-add at n bytes);
      at_end = λ z. absurd (omega arith);
      before_end = λ _. (refl, refl);
    })

-- nothing is left at the end
pub all_given : (bytes : List ℕ) (at n room : ℕ) → 0 < room → n ≡ min room (length (drop at bytes)) → n ≡ 0 → drop at bytes ≡ []
all_given bytes at n room wide count none = no_length (drop at bytes) (omega arith)
  where
    no_length : (xs : List ℕ) → length xs ≡ 0 → xs ≡ []
    no_length [] e = refl
    no_length (x ∷ xs) e = absurd (omega arith)

pub reads_end : (bytes : List ℕ) (at n room f : ℕ) (ended : Bool) (got : List ℕ) → 0 < room
    → n ≡ min room (length (drop at bytes)) → n ≡ 0
    → ReadsBytes (told bytes at ended f) (told bytes (at + n) true f) (take n got) n
unfolding told
reads_end bytes at n room f ended got wide count none =
    let e : drop at bytes ≡ [] = all_given bytes at n room wide count none in
    rw none (record {
      left = by_end ended e;
      given = ap Some (ap (λ (k : ℕ). take k bytes) (omega arith) ∙ sym (append-nil (take at bytes)));
      at_end = λ _. (refl, refl);
      before_end = λ m. absurd (omega arith);
    })
  where
    by_end : (t : Bool) → drop at bytes ≡ [] → Some (if t then [] else drop at bytes) ≡ Some []
    by_end true e = refl
    by_end false e = ap Some e
