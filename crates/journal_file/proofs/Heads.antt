-- What was read at a gate.
use Rattle.std.proofs.Common.{◌≡◌, ◌≢◌, ℕ, ◌+◌, ◌≤◌, ◌<◌, ◌^◌, List, [], ◌∷◌, ◌++◌, length, get_or, take, drop, refl, sym, ap, subst, ◌∙◌, arith, length-drop, take-append-drop}
use Rattle.std.specs.Int.{w64, from_be_bytes}
use Rattle.std.proofs.lemmas.List.{append-nil, drop_more, drop_all, get_or-drop, get_or-take}
use Rattle.journal_file.specs.declared.reading.Head.{Head}
use Rattle.journal_file.specs.declared.reading.Head.TheVariants.{Closed, Payload, Broken}
use Rattle.journal_file.specs.Records.{length_bytes}
use Rattle.journal_file.specs.Heads.{IsHead}
use Rattle.journal_file.proofs.Fields.{IsBytes, length_read, too_short, cut_short}

-- nine bytes are a gate and a length
pub head_spelled : (head : List ℕ) (n : ℕ) → IsBytes head → length head ≡ 9 → n ≡ from_be_bytes w64 (take 8 (drop 1 head)) → head ≡ get_or head 0 0 ∷ length_bytes n
head_spelled head n fits nine is =
    let rest = drop 1 head in
    let eight : length rest ≡ 8 = omega (arith, length-drop 1 head, nine) in
    let read = length_read rest [] n (λ i. rw (get_or-drop 1 head i 0) (fits (1 + i))) (omega (arith, eight)) is (sym (drop_all 8 rest (omega (arith, eight)))) in
    drop_more head 0 0 (omega (arith, nine)) ∙ ap (λ (l : List ℕ). get_or head 0 0 ∷ l) (read.0 ∙ append-nil (length_bytes n))

module _ (head behind : List ℕ) (g n : ℕ) (is : head ≡ g ∷ length_bytes n) where
  pub closed_head : g ≢ 1 → IsHead Closed (head ++ behind)
  closed_head shut = (g, length_bytes n ++ behind, ap (λ (l : List ℕ). l ++ behind) is, shut)

  opened_head : g ≡ 1 → head ++ behind ≡ 1 ∷ length_bytes n ++ behind
  opened_head one = ap (λ (l : List ℕ). l ++ behind) is ∙ ap (λ (k : ℕ). k ∷ length_bytes n ++ behind) one

  pub broken_head : g ≡ 1 → n < 2 ^ 64 → length behind ≤ n → IsHead Broken (head ++ behind)
  broken_head one fits short = (length_bytes n ++ behind, opened_head one, cut_short (length_bytes n ++ behind) behind n refl fits short)

  pub payload_head : g ≡ 1 → n < length behind → IsHead (Payload n) (head ++ behind)
  payload_head one long = (behind, opened_head one, long)

pub last_closed : (gate : ℕ) (behind : List ℕ) → gate ≢ 1 → IsHead Closed (gate ∷ behind)
last_closed gate behind shut = (gate, behind, refl, shut)

pub last_broken : (gate : ℕ) (behind : List ℕ) → gate ≡ 1 → length behind < 9 → IsHead Broken (gate ∷ behind)
last_broken gate behind one short = (behind, ap (λ (k : ℕ). k ∷ behind) one, too_short behind short)

-- the one byte that was read
pub first_byte : (file room : List ℕ) (place : ℕ) → room ≡ take 1 (drop place file) → get_or room 0 0 ≡ get_or file place 0
first_byte file room place is =
    ap (λ (l : List ℕ). get_or l 0 0) is ∙ get_or-take 1 (drop place file) 0 0 (omega arith) ∙ get_or-drop place file 0 0 ∙ ap (λ (k : ℕ). get_or file k 0) (omega arith)

-- a head that was read is that of what stands there
pub head_read : (h : Head) (file head : List ℕ) (place left : ℕ) → place + left ≡ length file → 10 ≤ left → head ≡ take 9 (drop place file)
    → ((behind : List ℕ) → 9 + length behind ≡ left → IsHead h (head ++ behind)) → IsHead h (drop place file)
head_read h file head place left whole long is all =
    let rest = drop place file in
    subst (IsHead h) (ap (λ (l : List ℕ). l ++ drop 9 rest) is ∙ take-append-drop 9 rest)
    (all (drop 9 rest) (omega (arith, length-drop 9 rest, length-drop place file, whole, long)))

pub last_head_read : (h : Head) (file : List ℕ) (place gate : ℕ) → place < length file → length file < place + 10 → gate ≡ get_or file place 0
    → ((behind : List ℕ) → length behind < 9 → IsHead h (gate ∷ behind)) → IsHead h (drop place file)
last_head_read h file place gate within last is all =
    subst (IsHead h) (ap (λ (k : ℕ). k ∷ drop (place + 1) file) is ∙ sym (drop_more file place 0 within))
    (all (drop (place + 1) file) (omega (arith, length-drop (place + 1) file, within, last)))
