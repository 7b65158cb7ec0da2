-- A file stands for one list of payloads, and is not damaged then.
use Rattle.std.proofs.Common.{◌≡◌, ◌≢◌, inl, inr, ℕ, ◌+◌, ◌≤◌, ◌<◌, ◌^◌, List, [], ◌∷◌, ◌++◌, length, refl, sym, ap, subst, ◌∙◌, arith, append_assoc, length-append}
use Rattle.std.specs.Int.{w64, from_be_bytes}
use Rattle.std.specs.List.{AllByRecursion}
use Rattle.std.proofs.lemmas.Nat.{from_be_bytes-to_be_bytes_8}
use Rattle.journal_file.specs.Records.{length_bytes, records, IsShort, IsClosedAfter, StandsFor, HasNoPayload, IsDamagedAfter, IsAsBefore, BeginsWith, RestsAfter}
use Rattle.disk.specs.Disks.{FileTold}
use Rattle.journal_file.proofs.Places.{length-length_bytes, same_parts}

-- eight bytes tell one length
pub same_length : (m n : ℕ) → m < 2 ^ 64 → n < 2 ^ 64 → length_bytes m ≡ length_bytes n → m ≡ n
unfolding length_bytes
same_length m n short short' same = sym (from_be_bytes-to_be_bytes_8 m short) ∙ ap (λ (l : List ℕ). from_be_bytes w64 l) same ∙ from_be_bytes-to_be_bytes_8 n short'

-- the first of two records that are the same, and what stands behind them
pub same_record : (p q x y : List ℕ) → IsShort p → IsShort q → length_bytes (length p) ++ p ++ x ≡ length_bytes (length q) ++ q ++ y → (p ≡ q) × (x ≡ y)
same_record p q x y short short' whole =
    let apart = same_parts (length_bytes (length p)) (length_bytes (length q)) (p ++ x) (q ++ y)
    (length-length_bytes (length p) ∙ sym (length-length_bytes (length q)))
    (sym (append_assoc (length_bytes (length p)) p x) ∙ whole ∙ append_assoc (length_bytes (length q)) q y) in
    same_parts p q x y (same_length (length p) (length q) short short' apart.0) apart.1

head_is : (a b : ℕ) (xs ys : List ℕ) → a ∷ xs ≡ b ∷ ys → (a ≡ b) × (xs ≡ ys)
head_is a b xs ys e = (cc, cc)

regroup : (p : List ℕ) (ps : List (List ℕ)) (rest : List ℕ) → records (p ∷ ps) ++ rest ≡ 1 ∷ length_bytes (length p) ++ p ++ (records ps ++ rest)
regroup p ps rest = ap (λ (l : List ℕ). 1 ∷ l) (append_assoc (length_bytes (length p) ++ p) (records ps) rest)

-- closed gates behind records: the records are the same
closed_once : (ps qs : List (List ℕ)) (g h : ℕ) (x y : List ℕ) → AllByRecursion IsShort ps → AllByRecursion IsShort qs → g ≢ 1 → h ≢ 1
    → records ps ++ g ∷ x ≡ records qs ++ h ∷ y → ps ≡ qs
closed_once [] [] g h x y s t cg ch e = refl
closed_once [] (q ∷ qs) g h x y s t cg ch e = absurd (cg (head_is g 1 x _ e).0)
closed_once (p ∷ ps) [] g h x y s t cg ch e = absurd (ch (sym (head_is 1 h _ y e).0))
closed_once (p ∷ ps) (q ∷ qs) g h x y s t cg ch e =
    let inner = (head_is 1 1 _ _ (sym (regroup p ps (g ∷ x)) ∙ e ∙ regroup q qs (h ∷ y))).1 in
    let first = same_record p q (records ps ++ g ∷ x) (records qs ++ h ∷ y) s.0 t.0 inner in
    let others = closed_once ps qs g h x y s.1 t.1 cg ch first.1 in
    ap (λ (l : List ℕ). l ∷ ps) first.0 ∙ ap (λ (l : List (List ℕ)). q ∷ l) others

-- records with a closed gate behind them hold a byte more
pub closed_is_long : (ps : List (List ℕ)) (g : ℕ) (x : List ℕ) → length (records ps ++ g ∷ x) ≡ length (records ps) + 1 + length x
closed_is_long ps g x = omega (arith, length-append (records ps) (g ∷ x))

-- a file of one byte that is closed stands for nothing
pub short_is_none : (ps : List (List ℕ)) (file : List ℕ) → length file ≤ 1 → IsClosedAfter ps file → ps ≡ []
short_is_none [] file short c = refl
short_is_none (p ∷ ps) file short c = absurd (omega (arith, short, ap length c.file_is, closed_is_long (p ∷ ps) c.gate c.behind))

pub closed_is_one : (ps qs : List (List ℕ)) (file : List ℕ) → IsClosedAfter ps file → IsClosedAfter qs file → ps ≡ qs
closed_is_one ps qs file c d = closed_once ps qs c.gate d.gate c.behind d.behind c.short d.short c.closed d.closed (sym c.file_is ∙ d.file_is)

pub stands_for_one : (ps qs : List (List ℕ)) (file : List ℕ) → StandsFor ps file → StandsFor qs file → ps ≡ qs
stands_for_one ps qs file (inl a) (inl b) = a.1 ∙ sym b.1
stands_for_one ps qs file (inl a) (inr d) = a.1 ∙ sym (short_is_none qs file a.0 d)
stands_for_one ps qs file (inr c) (inl b) = short_is_none ps file b.0 c ∙ sym b.1
stands_for_one ps qs file (inr c) (inr d) = closed_is_one ps qs file c d

nil_or : {A : Type 0} (a : A) (xs : List A) → a ∷ xs ≡ [] → ⊥
nil_or a xs e = absurd cc

-- a whole payload and a byte behind it: there are more records, or the closed gate
behind_is_more : (ps : List (List ℕ)) (g : ℕ) (x : List ℕ) → records ps ++ g ∷ x ≡ [] → ⊥
behind_is_more ps g x e = absurd (omega (arith, ap length e, closed_is_long ps g x))

damaged_once : (ps qs : List (List ℕ)) (g : ℕ) (x rest : List ℕ) → AllByRecursion IsShort ps → AllByRecursion IsShort qs → g ≢ 1
    → HasNoPayload rest
    → records ps ++ g ∷ x ≡ records qs ++ 1 ∷ rest → ⊥
damaged_once [] [] g x rest s t cg broken e = cg (head_is g 1 x rest e).0
damaged_once [] (q ∷ qs) g x rest s t cg broken e = cg (head_is g 1 x _ e).0
damaged_once (p ∷ ps) [] g x rest s t cg broken e =
    let inner = (head_is 1 1 _ _ (sym (regroup p ps (g ∷ x)) ∙ e)).1 in
    behind_is_more ps g x (broken p (records ps ++ g ∷ x) s.0 (sym inner))
damaged_once (p ∷ ps) (q ∷ qs) g x rest s t cg broken e =
    let inner = (head_is 1 1 _ _ (sym (regroup p ps (g ∷ x)) ∙ e ∙ regroup q qs (1 ∷ rest))).1 in
    let first = same_record p q (records ps ++ g ∷ x) (records qs ++ 1 ∷ rest) s.0 t.0 inner in
    damaged_once ps qs g x rest s.1 t.1 cg broken first.1

pub not_both : (ps qs : List (List ℕ)) (file : List ℕ) → StandsFor ps file → IsDamagedAfter qs file → ⊥
not_both ps qs file (inl a) d = absurd (omega (arith, a.0, d.not_empty))
not_both ps qs file (inr c) d = damaged_once ps qs c.gate c.behind d.rest c.short d.short c.closed d.broken (sym c.file_is ∙ d.file_is)

-- where the file is at rest, it stands for the payloads that it is at rest after
pub rests_after_those : (before payloads : List (List ℕ)) (gate : ℕ) (file : FileTold) → RestsAfter payloads gate file → StandsFor before file.seen → RestsAfter before gate file
rests_after_those before payloads gate file rests stands =
    subst (λ (ps : List (List ℕ)). RestsAfter ps gate file) (stands_for_one payloads before file.seen (inr rests.is_closed) stands) rests

-- the records of two lists are the same only where the lists are
records_once : (ps qs : List (List ℕ)) → AllByRecursion IsShort ps → AllByRecursion IsShort qs → records ps ≡ records qs → ps ≡ qs
records_once [] [] s t e = refl
records_once [] (q ∷ qs) s t e = absurd (omega (arith, ap length e))
records_once (p ∷ ps) [] s t e = absurd (omega (arith, ap length e))
records_once (p ∷ ps) (q ∷ qs) s t e =
    let first = same_record p q (records ps) (records qs) s.0 t.0 (head_is 1 1 _ _ e).1 in
    let others = records_once ps qs s.1 t.1 first.1 in
    ap (λ (l : List ℕ). l ∷ ps) first.0 ∙ ap (λ (l : List (List ℕ)). q ∷ l) others

-- up to one place, a file begins with the records of one list
pub begins_with_one : (ps qs : List (List ℕ)) (place : ℕ) (file : List ℕ) → BeginsWith ps place file → BeginsWith qs place file → ps ≡ qs
begins_with_one ps qs place file a b =
    records_once ps qs a.short b.short (same_parts (records ps) (records qs) _ _ (a.ends ∙ sym b.ends) (sym a.file_is ∙ b.file_is)).0

-- what an opening may have left stands for what stood before, and the other way round
pub as_before_stands : (ps : List (List ℕ)) (before file : List ℕ) → StandsFor ps before → IsAsBefore before file → StandsFor ps file
as_before_stands ps before file stands (inl same) = subst (StandsFor ps) (sym same) stands
as_before_stands ps before file (inl none) (inr empty) = inl (empty.1, none.1)
as_before_stands ps before file (inr closed) (inr empty) = inl (empty.1, short_is_none ps before empty.0 closed)

pub stood_before : (ps : List (List ℕ)) (before file : List ℕ) → StandsFor ps file → IsAsBefore before file → StandsFor ps before
stood_before ps before file stands (inl same) = subst (StandsFor ps) same stands
stood_before ps before file (inl none) (inr empty) = inl (empty.0, none.1)
stood_before ps before file (inr closed) (inr empty) = inl (empty.0, short_is_none ps file empty.1 closed)

pub damaged_before : (ps : List (List ℕ)) (before file : List ℕ) → IsDamagedAfter ps file → IsAsBefore before file → IsDamagedAfter ps before
damaged_before ps before file damaged (inl same) = subst (IsDamagedAfter ps) same damaged
damaged_before ps before file damaged (inr empty) = absurd (omega (arith, damaged.not_empty, empty.1))
