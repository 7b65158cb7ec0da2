-- What sessions hold, after one holds something else, and after an entry more.
use Rattle.std.proofs.Common.{true≢false, zero-add, ◌≡◌, ◌≢◌, ℕ, ◌+◌, ◌≤◌, Bool, true, false, cond, List, [], ◌∷◌, ◌++◌, Some, None, length, take, refl, ap, sym, ◌∙◌, arith, length-append, subst, inl, inr, ◌⊎◌}
use Rattle.std.specs.Ordering.{nat_cmp, eq_by_cmp}
use Rattle.std.specs.FinMap.Entries.{put, find, find-put}
use Rattle.core.specs.FinMap.Entries.{by_order}
use Rattle.core.specs.Ordering.{is_eq}
use Rattle.core.specs.declared.cmp.Ordering.{Ordering}
use Rattle.core.specs.declared.cmp.Ordering.TheVariants.{Less, Equal, Greater}
use Rattle.std.specs.Option.{option_map}
use Rattle.std.specs.Cmp.{nat_cmp_is}
use Rattle.std.proofs.lemmas.Cmp.{nat_cmp_total}
use Rattle.std.proofs.lemmas.Bool.{cases_order}
use Rattle.std.proofs.lemmas.Bool.Decides.{eqb_tells}
use Rattle.std.proofs.Math.Seq.{take-append_seam, drop-length}
use mathlib.Core.List.{IsPrefix}
use Rattle.desk_model.specs.declared.entry.Entry.{Entry}
use Rattle.desk_model.specs.Histories.{History, own, IsNumbered, CountsFrom, grown}
use Rattle.desk_model.proofs.OwnEntries.{own-mine, own-other, counts-more, prefix-more, prefix-le}
use Rattle.desk_core.specs.Interleaving.{World, holds}
use Rattle.desk_core.specs.Holds.{Hold, held_of, world_of, IsHold, IsCore}

-- how long what a session holds is
abbrev pub long : {S C : Type 0} → Hold S C → ℕ
long x = length x.seen.journal

-- what the world says of a session is what the core keeps for it
pub find-held : {S C : Type 0} (s : ℕ) (es : List (ℕ × Hold S C)) → find nat_cmp s (held_of es) ≡ option_map long (find nat_cmp s es)
find-held s [] = refl
find-held s (e ∷ es) = by_test (is_eq (nat_cmp s e.0)) (find-held s es)
  where
    by_test : (b : Bool) → find nat_cmp s (held_of es) ≡ option_map long (find nat_cmp s es) → cond b (Some (long e.1)) (find nat_cmp s (held_of es)) ≡ option_map long (cond b (Some e.1) (find nat_cmp s es))
    by_test true h = refl
    by_test false h = h

pub held-put : {S C : Type 0} (s : ℕ) (x : Hold S C) (es : List (ℕ × Hold S C)) → held_of (put nat_cmp s x es) ≡ put nat_cmp s (long x) (held_of es)
held-put s x [] = refl
held-put s x (e ∷ es) = by_test (nat_cmp s e.0) (held-put s x es)
  where
    by_test : (r : Ordering) → held_of (put nat_cmp s x es) ≡ put nat_cmp s (long x) (held_of es)
        → held_of (by_order r ((s, x) ∷ e ∷ es) ((e.0, x) ∷ es) (e ∷ put nat_cmp s x es)) ≡ by_order r ((s, long x) ∷ held_of (e ∷ es)) ((e.0, long x) ∷ held_of es) ((e.0, long e.1) ∷ put nat_cmp s (long x) (held_of es))
    by_test Less h = refl
    by_test Equal h = refl
    by_test Greater h = ap (λ ys. (e.0, long e.1) ∷ ys) h

-- a key that is another one isn't found there
differs : (t s : ℕ) → (t ≡ s) ⊎ (eq_by_cmp nat_cmp t s ≡ false)
differs t s = elim (cases_order t s) [
  | inl e ↦ inl e
  | inr o ↦ elim o [
    | inl lt ↦ inr (rw (← nat_cmp_is t s Less lt) refl)
    | inr gt ↦ inr (rw (← nat_cmp_is t s Greater gt) refl)
  ]
]

same : (s : ℕ) → eq_by_cmp nat_cmp s s ≡ true
same s = rw (← nat_cmp_is s s Equal refl) refl

-- a fact of what is held stands when one session holds something else of which it is true
pub put-keeps : {X : Type 0} (s : ℕ) (x : X) (es : List (ℕ × X)) (P Q : ℕ → X → Type 0)
    → Q s x → ((t : ℕ) (y : X) → t ≢ s → P t y → Q t y) → ((t : ℕ) (y : X) → find nat_cmp t es ≡ Some y → P t y)
    → (t : ℕ) (y : X) → find nat_cmp t (put nat_cmp s x es) ≡ Some y → Q t y
put-keeps {X = X} s x es P Q here others old t y is = elim (differs t s) [
  | inl e ↦ (let found : Some x ≡ Some y = sym (rw (same s) at (find-put nat_cmp nat_cmp_total s s x es)) ∙ (ap (λ k. find nat_cmp k (put nat_cmp s x es)) (sym e) ∙ is) in
      subst (λ k. Q k y) (sym e) (subst (Q s) (inside x y found) here))
  | inr ne ↦ (let found : find nat_cmp t es ≡ Some y = sym (rw ne at (find-put nat_cmp nat_cmp_total t s x es)) ∙ is in
      others t y (λ e. apart t s ne e) (old t y found))
]
  where
    inside : (a b : X) → Some a ≡ Some b → a ≡ b
    inside a b e = cc e

    apart : (t s : ℕ) → eq_by_cmp nat_cmp t s ≡ false → t ≡ s → ⊥
    apart t s ne e = true≢false (sym (same s) ∙ (ap (λ k. eq_by_cmp nat_cmp k s) (sym e) ∙ ne))

-- who isn't entered afterwards wasn't entered before, and is another one
pub put-strangers : {X : Type 0} (s : ℕ) (x : X) (es : List (ℕ × X)) (t : ℕ) → find nat_cmp t (put nat_cmp s x es) ≡ None → (t ≢ s) × (find nat_cmp t es ≡ None)
put-strangers {X = X} s x es t is = elim (differs t s) [
  | inl e ↦ absurd (some_none (sym (rw (same s) at (find-put nat_cmp nat_cmp_total s s x es)) ∙ (ap (λ k. find nat_cmp k (put nat_cmp s x es)) (sym e) ∙ is)))
  | inr ne ↦ ((λ e. true≢false (sym (same s) ∙ (ap (λ k. eq_by_cmp nat_cmp k s) (sym e) ∙ ne))), sym (rw ne at (find-put nat_cmp nat_cmp_total t s x es)) ∙ is)
]
  where
    some_none : Some x ≡ None → ⊥
    some_none e = cc e

-- the same version, of which a session holds something else
pub core-puts : {S C : Type 0} (b : ℕ) (begin v : History S C) (es : List (ℕ × Hold S C)) (s : ℕ) (x : Hold S C) → IsCore b begin v es → IsHold b v s x → IsCore b begin v (put nat_cmp s x es)
core-puts b begin v es s x c h = record {
  opening = c.opening;
  prefix = c.prefix;
  begun = c.begun;
  numbered = c.numbered;
  holds = put-keeps s x es (IsHold b v) (IsHold b v) h (λ t y ne old. old) c.holds;
  strangers = λ t is. c.strangers t (put-strangers s x es t is).1;
}

-- the serials of a list with one entry more that has its session's next serial
pub numbered-more : {C : Type 0} (b s : ℕ) (h : List (Entry C)) (e : Entry C) → b ≤ length h → e.session ≡ s → e.serial ≡ length (own b s h) → IsNumbered b h → IsNumbered b (h ++ e ∷ [])
numbered-more b s h e le session serial num n = elim (eqb_tells n s) [
  | inl p ↦ (let mine : e.session ≡ n = session ∙ sym p.1 in
      let at : e.serial ≡ 0 + length (own b n h) = serial ∙ (ap (λ k. length (own b k h)) (sym p.1) ∙ sym (zero-add (length (own b n h)))) in
      subst (CountsFrom 0) (sym (own-mine b n h e le mine)) (counts-more 0 (own b n h) e (num n) at))
  | inr p ↦ subst (CountsFrom 0) (sym (own-other b n h e le (λ q. p.1 (sym q ∙ session)))) (num n)
]

-- an entry more, of a session that then holds the whole
pub core-grows : {S C : Type 0} (b : ℕ) (begin v w : History S C) (es : List (ℕ × Hold S C)) (s : ℕ) (e : Entry C) (x : Hold S C)
    → IsCore b begin v es → w ≡ grown v e → e.session ≡ s → e.serial ≡ length (own b s v.journal) → x.seen ≡ w → x.serial ≡ length (own b s v.journal) + 1 → IsCore b begin w (put nat_cmp s x es)
core-grows b begin v w es s e x c is session next seen serial =
    let o : w.opening ≡ v.opening = ap (λ w. w.opening) is in
    let j : w.journal ≡ v.journal ++ e ∷ [] = ap (λ w. w.journal) is in
    let begun : b ≤ length v.journal = omega (arith, c.begun, prefix-le begin.journal v.journal c.prefix) in
    record {
      opening = c.opening ∙ sym o;
      prefix = rw j (prefix-more begin.journal v.journal (e ∷ []) c.prefix);
      begun = c.begun;
      numbered = subst (IsNumbered b) (sym j) (numbered-more b s v.journal e begun session next c.numbered);
      holds = put-keeps s x es (IsHold b v) (IsHold b w)
          (record {
            opening = ap (λ w. w.opening) seen;
            prefix = ([], append_nil x.seen.journal ∙ ap (λ w. w.journal) seen);
            serial = serial ∙ (sym (length-append (own b s v.journal) (e ∷ [])) ∙ ap length (sym (ap (own b s) j ∙ own-mine b s v.journal e begun session)));
          })
          (λ t y ne old. record {
            opening = old.opening ∙ sym o;
            prefix = rw j (prefix-more y.seen.journal v.journal (e ∷ []) old.prefix);
            serial = old.serial ∙ ap length (sym (ap (own b t) j ∙ own-other b t v.journal e begun (λ q. ne (sym q ∙ session))));
          })
          c.holds;
      strangers = λ t none. (let p = put-strangers s x es t none in
          ap length (ap (own b t) j ∙ own-other b t v.journal e begun (λ q. p.0 (sym q ∙ session))) ∙ c.strangers t p.1);
    }
  where
    append_nil : {A : Type 0} (xs : List A) → xs ++ [] ≡ xs
    append_nil [] = refl
    append_nil (x ∷ xs) = ap (λ ys. x ∷ ys) (append_nil xs)

-- a prefix is so many entries of the list
pub prefix-take : {A : Type 0} (f g : List A) → IsPrefix f g → f ≡ take (length f) g
prefix-take f g p = sym (rw (← p.1) (take-append_seam f p.0))

-- a session that was entered
pub core-knows : {S C : Type 0} (b : ℕ) (begin v : History S C) (es : List (ℕ × Hold S C)) (w : World S C) (s : ℕ) (x : Hold S C) → world_of b v es ≡ w → IsCore b begin v es → Some x ≡ find nat_cmp s es
    → (k : ℕ) × (holds w s ≡ Some k) × (x.serial ≡ length (own w.base s w.journal))
core-knows b begin v es w s x is c found =
    let h = c.holds s x (sym found) in
    (long x, ap (λ w. holds w s) (sym is) ∙ (find-held s es ∙ ap (option_map long) (sym found)), h.serial ∙ ap (λ w. length (own w.base s w.journal)) is)

pub core-holds : {S C : Type 0} (b : ℕ) (begin v : History S C) (es : List (ℕ × Hold S C)) (w : World S C) (s : ℕ) (x : Hold S C) → world_of b v es ≡ w → IsCore b begin v es → Some x ≡ find nat_cmp s es
    → (holds w s ≡ Some (length x.seen.journal)) × (x.seen.opening ≡ w.opening) × (x.seen.journal ≡ take (length x.seen.journal) w.journal)
core-holds b begin v es w s x is c found =
    let h = c.holds s x (sym found) in (
      ap (λ w. holds w s) (sym is) ∙ (find-held s es ∙ ap (option_map long) (sym found)),
      h.opening ∙ ap (λ w. w.opening) is,
      prefix-take x.seen.journal v.journal h.prefix ∙ ap (λ w. take (length x.seen.journal) w.journal) is,
    )

-- one that wasn't
pub core-misses : {S C : Type 0} (b : ℕ) (v : History S C) (es : List (ℕ × Hold S C)) (w : World S C) (s : ℕ) → world_of b v es ≡ w → None ≡ find nat_cmp s es → holds w s ≡ None
core-misses b v es w s is found = ap (λ w. holds w s) (sym is) ∙ (find-held s es ∙ ap (option_map long) (sym found))

-- a list past its end has no entries
pub none-numbered : {C : Type 0} (b : ℕ) (h : List (Entry C)) → b ≡ length h → IsNumbered b h
none-numbered b h is n = rw (is, drop-length h) tt
