-- Entries as payloads, one entry more.
use Rattle.std.proofs.Common.{◌≡◌, ℕ, zero, suc, ◌+◌, ◌≤◌, List, [], ◌∷◌, ◌++◌, length, drop, refl, sym, ap, subst, ◌∙◌, arith, append_assoc, append-nil, Some, drop-cons}
use Rattle.std.specs.Prelude.{slice_get}
use Rattle.std.proofs.lemmas.Option.{slice_get_within, get_or_from_slice_get}
use Rattle.byte_codec.specs.Codecs.{Codec}
use Rattle.byte_codec.specs.Payloads.{Encodes}
use Rattle.desk_model.specs.declared.entry.Entry.{Entry}
use Rattle.journal_keeper.specs.Recorded.{shifted, payloads, HaveCodes}

drop_one : {A : Type 0} (xs : List A) (i : ℕ) (x : A) → slice_get xs i ≡ Some x → drop i xs ≡ x ∷ drop (i + 1) xs
drop_one {A = A} xs i x e =
    let next : suc i ≡ i + 1 = omega arith in
    drop-cons xs i x (slice_get_within xs i x e) ∙ (ap (λ (y : A). y ∷ drop (suc i) xs) (get_or_from_slice_get xs i x x e) ∙ ap (λ (j : ℕ). x ∷ drop j xs) next)

nothing_left : {A : Type 0} (xs : List A) (i : ℕ) → length xs ≤ i → drop i xs ≡ []
nothing_left [] zero le = refl
nothing_left [] (suc i) le = refl
nothing_left (x ∷ xs) zero le = absurd (omega (arith, le))
nothing_left (x ∷ xs) (suc i) le = nothing_left xs i (omega (arith, le))

module _ {C : Type 0} (codec : Codec (Entry C)) (offset : ℕ) where
  pub are_more : (all more : List (List ℕ)) (h : List (Entry C)) (i : ℕ) (e : Entry C) (bytes : List ℕ) (goal : List (List ℕ)) → slice_get h i ≡ Some e → Encodes codec (shifted offset e) bytes
      → more ≡ all ++ bytes ∷ [] → all ++ payloads codec offset (drop i h) ≡ goal → more ++ payloads codec offset (drop (i + 1) h) ≡ goal
  are_more all more h i e bytes goal at is added so =
      let rest = payloads codec offset (drop (i + 1) h) in
      ap (λ (l : List (List ℕ)). l ++ rest) added ∙ (append_assoc all (bytes ∷ []) rest
      ∙ (ap (λ (b : List ℕ). all ++ b ∷ rest) is.text ∙ (ap (λ (l : List (Entry C)). all ++ payloads codec offset l) (sym (drop_one h i e at)) ∙ so)))

  pub codes_more : (h : List (Entry C)) (i : ℕ) (e : Entry C) (bytes : List ℕ) (goal : Type 0) → slice_get h i ≡ Some e → Encodes codec (shifted offset e) bytes
      → (HaveCodes codec offset (drop i h) → goal) → HaveCodes codec offset (drop (i + 1) h) → goal
  codes_more h i e bytes goal at is so have = so (subst (HaveCodes codec offset) (sym (drop_one h i e at)) (is.fits, have))

  pub all_are : (all : List (List ℕ)) (h : List (Entry C)) (i : ℕ) (goal : List (List ℕ)) → length h ≤ i → all ++ payloads codec offset (drop i h) ≡ goal → all ≡ goal
  all_are all h i goal le so = sym (append-nil all) ∙ (ap (λ (l : List (Entry C)). all ++ payloads codec offset l) (sym (nothing_left h i le)) ∙ so)

  pub all_codes : (h : List (Entry C)) (i : ℕ) (goal : Type 0) → length h ≤ i → (HaveCodes codec offset (drop i h) → goal) → goal
  all_codes h i goal le so = so (subst (HaveCodes codec offset) (sym (nothing_left h i le)) tt)
