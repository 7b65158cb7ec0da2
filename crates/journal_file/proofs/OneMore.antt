-- One record after the other.
use Rattle.std.proofs.Common.{◌≡◌, inl, inr, ℕ, ◌+◌, ◌-◌, ◌≤◌, ◌<◌, ◌^◌, true, false, Bool, IsTrue, List, [], ◌∷◌, ◌++◌, length, take, drop, refl, sym, ap, subst, ◌∙◌, arith, append_assoc, length-append, length-take, length-drop, take-append-drop}
use Rattle.std.proofs.lemmas.Bool.{cases_lt}
use Rattle.std.proofs.lemmas.List.{drop_at}
use Rattle.archive.specs.Extents.{Stands}
use Rattle.disk.specs.Disks.{FileTold, told_now}
use Rattle.disk.specs.Crashes.{IsSynced}
use Rattle.journal_file.specs.declared.reading.Head.TheVariants.{Closed, Payload, Broken}
use Rattle.journal_file.specs.Records.{length_bytes, records, IsShort, BeginsWith, IsClosedAt, IsDamagedAfter, RestsAfter}
use Rattle.journal_file.specs.Heads.{IsHead}
use Rattle.journal_file.specs.Openings.{IsBeingOpened}
use Rattle.journal_file.proofs.Places.{length-length_bytes, records-append, records-more, all-append}
use Rattle.journal_file.proofs.One.{begins_with_one}

-- the record of one payload has nine bytes more
pub one_long : (p : List ℕ) → length (records (p ∷ [])) ≡ 9 + length p
one_long p = omega (arith, length-append (length_bytes (length p) ++ p) [], length-append (length_bytes (length p)) p, length-length_bytes (length p))

pub one_more_long : (before : List (List ℕ)) (p : List ℕ) → length (records (before ++ p ∷ [])) ≡ length (records before) + 9 + length p
one_more_long before p = ap length (records-append before (p ∷ [])) ∙ omega (arith, length-append (records before) (records (p ∷ [])), one_long p)

-- a file of at least one byte begins with no records
pub begins_with_none : (file : List ℕ) → 0 < length file → BeginsWith [] 0 file
begins_with_none file some = record { file_is = refl; ends = refl; within = some; short = tt }

module _ (before : List (List ℕ)) (place : ℕ) (file : List ℕ) (begins : BeginsWith before place file) where
  -- the gate is closed
  pub closes : IsHead Closed (drop place file) → IsClosedAt before place file
  closes (gate, behind, is, shut) = record {
    is_closed = record { gate = gate; behind = behind; file_is = begins.file_is ∙ ap (λ (l : List ℕ). records before ++ l) is; closed = shut; short = begins.short };
    ends = begins.ends;
  }

  -- the file is damaged
  pub damages : IsHead Broken (drop place file) → (length file ≤ 1 → file ≡ 0 ∷ []) → IsDamagedAfter before file
  damages (behind, is, broken) one_byte = record {
    rest = behind;
    file_is = begins.file_is ∙ ap (λ (l : List ℕ). records before ++ l) is;
    not_empty = elim (cases_lt 1 (length file)) [ inl lt ↦ lt | inr le ↦ absurd (no_damage (one_byte le)) ];
    broken = broken;
    short = begins.short;
  }
    where
      no_damage : file ≡ 0 ∷ [] → ⊥
      no_damage alone =
          let first : place ≡ 0 = omega (arith, begins.within, ap length alone) in
          let gate : 0 ∷ [] ≡ 1 ∷ behind = sym (ap (λ (l : List ℕ). drop place l) alone ∙ ap (λ (k : ℕ). drop k (0 ∷ [])) first) ∙ is in
          absurd cc

  module _ (n : ℕ) (bytes : List ℕ) (head : IsHead (Payload n) (drop place file)) (got : bytes ≡ take n (drop (place + 9) file)) (fits : length file < 2 ^ 63) where
    abbrev behind : List ℕ
    behind = head.0

    -- what stands behind the length
    behind_is : drop (place + 9) file ≡ behind
    behind_is =
        ap (λ (l : List ℕ). drop (place + 9) l) (begins.file_is ∙ ap (λ (l : List ℕ). records before ++ l) head.1 ∙ sym (append_assoc (records before) (1 ∷ length_bytes n) behind))
        ∙ drop_at (records before ++ (1 ∷ length_bytes n)) behind (place + 9) (omega (arith, length-append (records before) (1 ∷ length_bytes n), length-length_bytes n, begins.ends))

    bytes_are : bytes ≡ take n behind
    bytes_are = got ∙ ap (λ (l : List ℕ). take n l) behind_is

    size : length bytes ≡ n
    size = ap length bytes_are ∙ omega (arith, length-take n behind, head.2)

    split : behind ≡ bytes ++ drop n behind
    split = sym (take-append-drop n behind) ∙ ap (λ (l : List ℕ). l ++ drop n behind) (sym bytes_are)

    whole : file ≡ records (before ++ bytes ∷ []) ++ drop n behind
    whole =
        begins.file_is
        ∙ ap (λ (l : List ℕ). records before ++ l) (head.1
        ∙ ap (λ (l : List ℕ). 1 ∷ length_bytes n ++ l) split
        ∙ ap (λ (l : List ℕ). 1 ∷ l) (sym (append_assoc (length_bytes n) bytes (drop n behind)))
        ∙ ap (λ (k : ℕ). 1 ∷ length_bytes k ++ bytes ++ drop n behind) (sym size))
        ∙ sym (records-more before bytes (drop n behind))

    long : length (records (before ++ bytes ∷ [])) ≡ place + 9 + n
    long = omega (arith, one_more_long before bytes, begins.ends, size)

    file_long : length file ≡ place + 9 + n + length (drop n behind)
    file_long = ap length whole ∙ length-append (records (before ++ bytes ∷ [])) (drop n behind) ∙ ap (λ (k : ℕ). k + length (drop n behind)) long

    -- the file begins with one record more
    pub one_more : BeginsWith (before ++ bytes ∷ []) (place + 9 + n) file
    one_more = record {
      file_is = whole ∙ ap (λ (l : List ℕ). records (before ++ bytes ∷ []) ++ l)
          (sym (ap (λ (l : List ℕ). drop (place + 9 + n) l) whole ∙ drop_at (records (before ++ bytes ∷ [])) (drop n behind) (place + 9 + n) long));
      ends = long;
      within = omega (arith, file_long, length-drop n behind, head.2);
      short = all-append IsShort before (bytes ∷ []) begins.short (omega (arith, size, file_long, fits), tt);
    }

-- bytes that stand in a file stand in its archive
pub stands_in : (tells : Bool) (file : FileTold) (place : ℕ) (bytes : List ℕ) → place + length bytes < 2 ^ 63 → (IsTrue tells → place + length bytes ≤ length file.seen)
    → (IsTrue tells → take (length bytes) (drop place file.seen) ≡ bytes) → Stands (told_now tells file) place (length bytes) bytes
stands_in true file place bytes fits within there = record { counted = refl; inside = record { fits = fits; within = within refl }; there = there refl }
stands_in false file place bytes fits within there = record { counted = refl; inside = record { fits = fits; within = tt }; there = tt }

-- ---- an opening

module _ (tells : Bool) (file : FileTold) (place left count : ℕ) (opening : IsBeingOpened tells file place left count) where
  -- its file is at rest where the gate is closed
  pub rests : (later : FileTold) → (IsTrue tells → later ≡ file) → (IsTrue tells → IsHead Closed (drop place file.seen)) → IsTrue tells → (payloads : List (List ℕ)) × RestsAfter payloads place later
  rests later same head t =
      let begins = opening.begins t in
      let closed = closes begins.0 place file.seen begins.1 (head t) in
      (begins.0, subst (RestsAfter begins.0 place) (sym (same t)) (record { synced = opening.synced t; is_closed = closed.is_closed; ends = closed.ends }))

  -- so many records stand before the damage
  pub counted : (before : List (List ℕ)) → IsTrue tells → BeginsWith before place file.seen → length before ≡ count
  counted before t begins =
      let own = opening.begins t in ap length (begins_with_one before own.0 place file.seen begins own.1) ∙ own.2

  pub short_file : IsTrue tells → length file.seen < 2 ^ 63
  short_file t = omega (arith, opening.whole t, opening.fits)

  -- it goes on behind a payload
  pub goes_behind : (later : FileTold) (n : ℕ) (bytes : List ℕ) → (IsTrue tells → later ≡ file) → n + 10 ≤ left → (IsTrue tells → IsHead (Payload n) (drop place file.seen))
      → (IsTrue tells → bytes ≡ take n (drop (place + 9) file.seen)) → IsBeingOpened tells later (place + 9 + n) (left - 9 - n) (count + 1)
  goes_behind later n bytes same within head got = record {
    some = omega (arith, within);
    fits = omega (arith, within, opening.fits);
    counted = omega (arith, opening.counted);
    synced = λ t. subst IsSynced (sym (same t)) (opening.synced t);
    whole = λ t. omega (arith, within, opening.whole t) ∙ ap (λ (f : FileTold). length f.seen) (sym (same t));
    begins = λ t.
        let own = opening.begins t in
        let more = one_more own.0 place file.seen own.1 n bytes (head t) (got t) (short_file t) in (
          own.0 ++ bytes ∷ [],
          subst (λ (f : FileTold). BeginsWith (own.0 ++ bytes ∷ []) (place + 9 + n) f.seen) (sym (same t)) more,
          omega (arith, length-append own.0 (bytes ∷ []), own.2),
        );
    one_byte = λ t short. subst (λ (f : FileTold). length f.seen ≤ 1 → f.seen ≡ 0 ∷ []) (sym (same t)) (opening.one_byte t) short;
  }

  -- the payload stands where it was read
  pub stands_there : (n : ℕ) (bytes : List ℕ) → n + 10 ≤ left → length bytes ≡ n → (IsTrue tells → bytes ≡ take n (drop (place + 9) file.seen)) → Stands (told_now tells file) (place + 9) (length bytes) bytes
  stands_there n bytes within size got =
      stands_in tells file (place + 9) bytes (omega (arith, within, size, opening.fits)) (λ t. omega (arith, within, size, opening.whole t))
      (λ t. ap (λ (k : ℕ). take k (drop (place + 9) file.seen)) size ∙ sym (got t))
