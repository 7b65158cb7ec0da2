-- A payload's length and a payload, as they are read and written.
use Rattle.std.proofs.Common.{◌≡◌, ℕ, ◌≤◌, ◌<◌, ◌^◌, List, [], ◌∷◌, ◌++◌, length, get_or, take, drop, sym, ap, ◌∙◌, arith, append_assoc, length-append, length-take, take-append-drop, inl, inr}
use Rattle.std.specs.Int.{w64, from_be_bytes, to_be_bytes}
use Rattle.std.proofs.lemmas.Nat.{be_bytes_8, from_be_bytes-to_be_bytes_8}
use Rattle.std.proofs.lemmas.Bool.{cases_lt}
use Rattle.std.proofs.lemmas.List.{take_at, drop_at, append-nil, get_or-take, get_or_past, nil_from_length}
use Rattle.journal_file.specs.Records.{length_bytes, records, HasNoPayload}
use Rattle.journal_file.proofs.Places.{length-length_bytes, records-append}

abbrev pub IsBytes : List ℕ → Type 0
IsBytes bytes = (i : ℕ) → get_or bytes i 0 < 256

IsBytes-take : (n : ℕ) (bytes : List ℕ) → IsBytes bytes → IsBytes (take n bytes)
IsBytes-take n bytes h i =
    elim (cases_lt i n) [
      | inl lt ↦ rw (get_or-take n bytes i 0 lt) (h i)
      | inr le ↦ rw (get_or_past (take n bytes) i 0 (omega (arith, length-take n bytes))) (omega arith)
    ]

below : (bytes : List ℕ) → IsBytes bytes → from_be_bytes w64 bytes < 2 ^ 64
below bytes fits = omega (arith, fits 0, fits 1, fits 2, fits 3, fits 4, fits 5, fits 6, fits 7)

-- the number of the first eight bytes is the one that these bytes tell
pub length_read : (bytes rest : List ℕ) (n : ℕ) → IsBytes bytes → 8 ≤ length bytes → n ≡ from_be_bytes w64 (take 8 bytes) → rest ≡ drop 8 bytes → (bytes ≡ length_bytes n ++ rest) × (n < 2 ^ 64)
unfolding length_bytes
length_read bytes rest n fits long is rest-is =
    let front : to_be_bytes w64 n ≡ take 8 bytes = be_bytes_8 (take 8 bytes) n (omega (arith, length-take 8 bytes)) (IsBytes-take 8 bytes fits) is in (
      sym (take-append-drop 8 bytes) ∙ ap (λ (l : List ℕ). l ++ drop 8 bytes) (sym front) ∙ ap (λ (l : List ℕ). to_be_bytes w64 n ++ l) (sym rest-is),
      rw is (below (take 8 bytes) (IsBytes-take 8 bytes fits)),
    )

same_tail : (m n : ℕ) (x y : List ℕ) → m < 2 ^ 64 → n < 2 ^ 64 → length_bytes m ++ x ≡ length_bytes n ++ y → (m ≡ n) × (x ≡ y)
unfolding length_bytes
same_tail m n x y short short' e =
    let left : take 8 (length_bytes m ++ x) ≡ length_bytes m = take_at (length_bytes m) x 8 (length-length_bytes m) in
    let right : take 8 (length_bytes n ++ y) ≡ length_bytes n = take_at (length_bytes n) y 8 (length-length_bytes n) in
    let same : length_bytes m ≡ length_bytes n = sym left ∙ ap (λ (l : List ℕ). take 8 l) e ∙ right in
    let below_left : drop 8 (length_bytes m ++ x) ≡ x = drop_at (length_bytes m) x 8 (length-length_bytes m) in
    let below_right : drop 8 (length_bytes n ++ y) ≡ y = drop_at (length_bytes n) y 8 (length-length_bytes n) in (
      sym (from_be_bytes-to_be_bytes_8 m short) ∙ ap (λ (l : List ℕ). from_be_bytes w64 l) same ∙ from_be_bytes-to_be_bytes_8 n short',
      sym below_left ∙ ap (λ (l : List ℕ). drop 8 l) e ∙ below_right,
    )

-- fewer than nine bytes
pub too_short : (bytes : List ℕ) → length bytes < 9 → HasNoPayload bytes
too_short bytes short payload more fits e =
    nil_from_length more (omega (arith, short, ap length e, length-append (length_bytes (length payload) ++ payload) more, length-append (length_bytes (length payload)) payload, length-length_bytes (length payload)))

-- no byte stands behind so many
pub cut_short : (bytes rest : List ℕ) (n : ℕ) → bytes ≡ length_bytes n ++ rest → n < 2 ^ 64 → length rest ≤ n → HasNoPayload bytes
cut_short bytes rest n is fits short payload more fits' e =
    let whole : length_bytes n ++ rest ≡ length_bytes (length payload) ++ (payload ++ more) = sym is ∙ e ∙ append_assoc (length_bytes (length payload)) payload more in
    let same = same_tail n (length payload) rest (payload ++ more) fits fits' whole in
    nil_from_length more (omega (arith, same.0, ap length same.1, length-append payload more, short))

-- ---- a frame

pub adds_one : (payloads : List (List ℕ)) (payload frame old : List ℕ) → old ≡ records payloads → frame ≡ old ++ (1 ∷ length_bytes (length payload) ++ payload) → frame ≡ records (payloads ++ payload ∷ [])
adds_one payloads payload frame old so_far is =
    is ∙ ap (λ (l : List ℕ). l ++ (1 ∷ length_bytes (length payload) ++ payload)) so_far
    ∙ ap (λ (l : List ℕ). records payloads ++ (1 ∷ l)) (sym (append-nil (length_bytes (length payload) ++ payload)))
    ∙ sym (records-append payloads (payload ∷ []))
