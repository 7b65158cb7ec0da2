-- The lock begins.
use Rattle.std.proofs.Common.{◌≡◌, ◌≤◌, ℕ, List, [], ◌∷◌, ◌++◌, length, sym, refl, ap, ◌∙◌, subst, arith, append-nil, Option, Some, None}
use mathlib.Core.Option.{some, some-injective, some-ne-none}
use lib.ListN.{get_elem?}
use Rattle.std.specs.Arc.{arc_value}
use Rattle.std_alloc.specs.declared.arc.Arc.{Arc}
use Rattle.atomic_table.specs.Table.{opening}
use Rattle.desk_model.specs.Histories.{History}
use Rattle.desk_lock.specs.Numbers.{Card, Ranks, IsIn, AreApart, numbers, most_passes}
use Rattle.desk_model.specs.declared.entry.Entry.{Entry}
use Rattle.desk_lock.specs.declared.board.Laid.{Laid}
use Rattle.desk_lock.specs.declared.board.Store.{Store}
use Rattle.desk_lock.specs.Board.{Slot, AtHome, Again, Fits, Kept, card}
use Rattle.desk_lock.specs.Seats.{Beginning, beginner}

one_is_few : 1 ≤ most_passes
unfolding most_passes
one_is_few = omega arith

only : {X : Type 0} (a b : X) (j : ℕ) → get_elem? (a ∷ []) j ≡ some b → (j ≡ 0) × (a ≡ b)
only a b Rattle.std.proofs.Common.zero e = (refl, some-injective a b e)
only a b (Rattle.std.proofs.Common.suc j) e = absurd (some-ne-none b (sym e))

module _ {S C K : Type 0} where
  begun_ranks : (t : Beginning S C K) → Ranks [] (card (beginner t) ∷ [])
  begun_ranks t = record {
    first = 0;
    made = 1;
    keeper = λ _. 0;
    few = one_is_few;
    one_first = λ j c at _. let o = only (card (beginner t)) c j at in (o.0, ap (λ (z : Card C). z.made) (sym o.1));
    kept = λ j n c at i. let o = only (card (beginner t)) c j at in let i' : IsIn n (0 ∷ []) = subst (λ (z : Card C). IsIn n (numbers z)) (sym o.1) i in let m = (only 0 n i'.0 i'.1).1 in (sym o.0, omega arith);
    apart = λ j c at. let o = only (card (beginner t)) c j at in subst (λ (z : Card C). AreApart (numbers z)) o.1 (λ i k n a b. (only 0 n i a).0 ∙ sym (only 0 n k b).0);
    covered = λ k e at. absurd (some-ne-none e (sym at));
    ended = λ j k c x at there. let o = only (card (beginner t)) c j at in absurd (some-ne-none x (sym (subst (λ (z : Card C). get_elem? z.ended k ≡ some x) (sym o.1) there)));
  }

module _ {S C A K : Type 0} (stands : K → Store K → List (Entry C) → List (Entry C) → Type 0) where
  pub begins : (t : Beginning S C K) (a b : Laid (Arc (History S C) A) K) → arc_value a.version ≡ t.version → arc_value b.version ≡ t.version → stands t.keeper a.store t.version.journal t.version.journal → a.settled ≡ length t.version.journal → a.again ≡ None → Kept stands t (opening (0 ∷ 0 ∷ 0 ∷ 0 ∷ 0 ∷ []) (Some a ∷ Some b ∷ []) (beginner t))
  begins t a b is also kept long alone = record {
    now = record { news = []; shelved = []; owed = []; turn = 0; holder = 0; shelf = 0; shower = 0 };
    words = record { wide = refl; count = refl; turn = refl; shelf = refl; shelf_number = refl };
    level = refl;
    slots = record {
      home = λ _. (
        a,
        refl,
        ap (λ (z : History S C). z.opening) is,
        ap (λ (z : History S C). z.journal) is ∙ sym (append-nil t.version.journal),
        subst (AtHome stands (Some t.keeper) a) (sym (append-nil t.version.journal)) record {
          first = t.keeper;
          begun = refl;
          keeps = subst (stands t.keeper a.store t.version.journal) (sym (ap (λ (z : History S C). z.journal) is)) kept;
          settled = long;
          again = subst (λ (o : Option (Arc (History S C) A)). Again (arc_value a.version) t.version.journal o) (sym alone) (ap (λ (z : History S C). z.journal) is);
        },
      );
      stand = λ _. (b, refl, ap (λ (z : History S C). z.opening) also, ap (λ (z : History S C). z.journal) also ∙ sym (append-nil t.version.journal));
    };
    manned = record { turn = λ ne. absurd (ne refl); shelf = λ ne. absurd (ne refl) };
    each = λ j v at. let o = only (beginner t) v j at in subst (Fits t record { news = []; shelved = []; owed = []; turn = 0; holder = 0; shelf = 0; shower = 0 } j) o.1
        record { origin = λ _. refl; keeper = λ _. refl; start = λ _. refl; seen = ([], refl); told = (t.version.journal ++ [], refl); sure = omega arith; told_sure = omega arith; own = λ _. refl; turn = tt; shelf = tt };
    serials = λ n. tt;
    ranks = begun_ranks t;
  }

  pub begins_so : (key t : Beginning S C K) (a b : Laid (Arc (History S C) A) K) (xs : List (Slot S C A K)) → key ≡ t → arc_value a.version ≡ t.version → arc_value b.version ≡ t.version → stands t.keeper a.store t.version.journal t.version.journal → a.settled ≡ length t.version.journal → a.again ≡ None → xs ≡ Some a ∷ Some b ∷ [] → Kept stands key (opening (0 ∷ 0 ∷ 0 ∷ 0 ∷ 0 ∷ []) xs (beginner key))
  begins_so key t a b xs same is also kept long alone two = subst (λ (z : Beginning S C K × List (Slot S C A K)). Kept stands z.0 (opening (0 ∷ 0 ∷ 0 ∷ 0 ∷ 0 ∷ []) z.1 (beginner z.0))) (λ i. (sym same i, sym two i)) (begins t a b is also kept long alone)
