-- The passes of a desk of one thread, after its calls.
use Rattle.std.proofs.Common.{◌≡◌, ◌≢◌, ℕ, ◌+◌, ◌≤◌, List, [], ◌∷◌, ◌++◌, Option, Result, Ok, length, drop, refl, ap, sym, ◌∙◌, arith, length-append, subst}
use Rattle.std.proofs.lemmas.List.{append-nil, drop-append-le}
use Rattle.outside.specs.Clocks.{Words}
use Rattle.cm_base.specs.declared.number.Moment.{Moment}
use Rattle.desk_model.specs.declared.entry.Entry.{Entry}
use Rattle.desk_model.specs.Histories.{History, IsLegal, own, SessionsBelow, CountsFrom, grown, shown_by, state_of}
use Rattle.desk_model.specs.Desks.{Known, known_at, with_entry, entry_of, Wrote}
use Rattle.desk_model.specs.Single.{Single, single_at, IsOf}
use Rattle.desk_model.proofs.OwnEntries.{own-mine, own-other, counts-more, prefix-more, prefix-le, below-append, below-weaker, own-new}

-- the pass has seen the whole journal
pub one-sees : {S C A X : Type 0} {names : List ℕ} (next : S → Entry C → Result (S × A) X) (d : Single S C) (v w : History S C) (k l : Known S C) (b m : ℕ) (words : Option Words)
    → single_at v b m words names ≡ d → IsOf next d k → IsLegal next v.opening v.journal → w ≡ v → l ≡ known_at k.base k.session w → IsOf next d l
one-sees next d v w k l b m words is of lawful at knows =
    let o : v.opening ≡ d.opening = ap (λ d. d.opening) is in
    let j : v.journal ≡ d.journal = ap (λ d. d.journal) is in
    let mine : own k.base k.session v.journal ≡ k.own = ap (own k.base k.session) j ∙ of.all in
    let begun : k.base ≤ length v.journal = omega (arith, of.sound.begun, prefix-le k.seen d.journal of.seen, ap length j) in
    rw (knows, at) (record {
      opening = o;
      base = of.base;
      made = of.made;
      seen = ([], append-nil v.journal ∙ j);
      all = sym (ap (own k.base k.session) j);
      few = of.few;
      below = rw (j, of.base) of.few;
      sound = record { lawful = lawful; begun = begun; mine = refl; serials = subst (CountsFrom 0) (sym mine) of.sound.serials };
    })

-- the pass has added an entry to the whole journal
pub record OneAdds {S C A X : Type 0} (next : S → Entry C → Result (S × A) X) (d : Single S C) (k : Known S C) (w : History S C) (e : Entry C) (words : Option Words) : Type 0 where
  pub count : length (own k.base k.session w.journal) ≡ length k.own + 1
  pub knows : known_at k.base k.session w ≡ with_entry k d.journal e
  pub of : IsLegal next w.opening w.journal → IsOf next (single_at w d.base d.made words d.stands_for) (known_at k.base k.session w)
  pub begun : d.base ≤ length w.journal
  pub few : SessionsBelow d.made (drop d.base w.journal)
  pub others : (q : Known S C) → q.session ≢ k.session → IsOf next d q → IsOf next (single_at w d.base d.made words d.stands_for) q

pub one-adds : {S C A X : Type 0} {names : List ℕ} (next : S → Entry C → Result (S × A) X) (v w : History S C) (b m : ℕ) (words : Option Words) (k : Known S C) (e : Entry C)
    → IsOf next (single_at v b m words names) k → w ≡ grown v e → e.session ≡ k.session → e.serial ≡ length k.own → OneAdds next (single_at v b m words names) k w e words
one-adds next v w b m words k e of is session serial =
    let o : w.opening ≡ v.opening = ap (λ w. w.opening) is in
    let j : w.journal ≡ v.journal ++ e ∷ [] = ap (λ w. w.journal) is in
    let begun : k.base ≤ length v.journal = omega (arith, of.sound.begun, prefix-le k.seen v.journal of.seen) in
    let mine : own k.base k.session w.journal ≡ k.own ++ e ∷ [] = ap (own k.base k.session) j ∙ (own-mine k.base k.session v.journal e begun session ∙ ap (λ xs. xs ++ e ∷ []) of.all) in
    let few : SessionsBelow m (drop b w.journal) = rw (j, drop-append-le b v.journal (e ∷ []) (omega (arith, begun, of.base))) (below-append m (drop b v.journal) (e ∷ []) of.few (rw session of.made, tt)) in
    record {
      begun = omega (arith, begun, of.base, ap length j, length-append v.journal (e ∷ []));
      few = few;
      count = omega (arith, ap length mine, length-append k.own (e ∷ []));
      knows = rw (o, mine, j, ← of.opening) refl;
      of = λ lawful. record {
        opening = refl;
        base = of.base;
        made = of.made;
        seen = ([], append-nil w.journal);
        all = refl;
        few = few;
        below = rw of.base few;
        sound = record {
          lawful = lawful;
          begun = omega (arith, begun, ap length j, length-append v.journal (e ∷ []));
          mine = refl;
          serials = subst (CountsFrom 0) (sym mine) (counts-more 0 k.own e of.sound.serials (omega (arith, serial)));
        };
      };
      others = λ q ne is_of. record {
        opening = is_of.opening ∙ sym o;
        base = is_of.base;
        made = is_of.made;
        seen = rw j (prefix-more q.seen v.journal (e ∷ []) is_of.seen);
        all = ap (own q.base q.session) j ∙ (own-other q.base q.session v.journal e (omega (arith, is_of.sound.begun, prefix-le q.seen v.journal is_of.seen)) (λ h. ne (sym h ∙ session)) ∙ is_of.all);
        few = few;
        below = is_of.below;
        sound = is_of.sound;
      };
    }

-- what the accepted write tells
pub one-wrote : {S C A X : Type 0} {names : List ℕ} (next : S → Entry C → Result (S × A) X) (number : S → ℕ) (v w : History S C) (b m : ℕ) (words : Option Words) (k l : Known S C) (least n : ℕ) (user : List ℕ) (moment : Moment) (call : C) (a : A)
    → IsOf next (single_at v b m words names) k → w ≡ grown v (entry_of k user moment call) → l ≡ known_at k.base k.session w
    → n ≡ number (state_of next v) → least ≤ n → shown_by (next (state_of next v) (entry_of k user moment call)) ≡ Ok a
    → Wrote next number k least user moment call (Ok a) l
one-wrote next number v w b m words k l least n user moment call a of is knows num le told =
    let adds = one-adds next v w b m words k (entry_of k user moment call) of is refl refl in
    (v.journal, of.seen, knows ∙ adds.knows, rw (of.opening, ← num) le, rw of.opening told)

-- a new pass
pub one-new : {S C A X : Type 0} {names : List ℕ} (next : S → Entry C → Result (S × A) X) (v w : History S C) (b m : ℕ) (words : Option Words)
    → IsLegal next v.opening v.journal → b ≤ length v.journal → SessionsBelow m (drop b v.journal) → w ≡ v → IsOf next (single_at v b (m + 1) words names) (known_at b m w)
one-new next v w b m words lawful begun few is = rw is (record {
  opening = refl;
  base = refl;
  made = omega arith;
  seen = ([], append-nil v.journal);
  all = refl;
  few = below-weaker m (drop b v.journal) few;
  below = below-weaker m (drop b v.journal) few;
  sound = record { lawful = lawful; begun = begun; mine = refl; serials = rw (own-new b m v.journal few) tt };
})

-- a pass stays one of the desk when another is made
pub one-stays : {S C A X : Type 0} {names : List ℕ} (next : S → Entry C → Result (S × A) X) (v : History S C) (b m : ℕ) (words : Option Words) (p : Known S C)
    → IsOf next (single_at v b m words names) p → IsOf next (single_at v b (m + 1) words names) p
one-stays next v b m words p of = record {
  opening = of.opening;
  base = of.base;
  made = omega (arith, of.made);
  seen = of.seen;
  all = of.all;
  few = below-weaker m (drop b v.journal) of.few;
  below = below-weaker m (drop p.base p.seen) of.below;
  sound = of.sound;
}
