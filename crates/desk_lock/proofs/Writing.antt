-- What a write and a look have done.
use Rattle.std.proofs.Common.{◌≡◌, ℕ, ◌+◌, ◌^◌, ◌<◌, ◌≤◌, List, [], ◌∷◌, ◌++◌, length, drop, sym, refl, ap, ◌∙◌, subst, arith, length-append, length-drop, Result, Ok, Some}
use Rattle.std.specs.Prelude as std
use Rattle.std.proofs.lemmas.List.{drop-append-le}
use mathlib.Core.List.{IsPrefix}
use Rattle.atomic_table.specs.Seated.{TableId}
use Rattle.cm_base.specs.declared.number.Moment.{Moment}
use Rattle.desk_model.specs.declared.entry.Entry.{Entry}
use Rattle.desk_model.specs.Histories.{History, IsLegal, replay, grown, shown_by, state_of}
use Rattle.desk_model.specs.Desks.{with_seen, with_entry, entry_of, Wrote}
use Rattle.desk_lock.specs.declared.board.View.{View}
use Rattle.desk_lock.specs.declared.board.Turn.{Turn}
use Rattle.desk_lock.specs.declared.board.Turn.TheVariants.{NoTurn}
use Rattle.desk_lock.specs.Board.{Slot}
use Rattle.desk_lock.specs.Numbers.{by}
use Rattle.desk_lock.specs.Steps.{Sat, Follows, IsOpen}
use Rattle.desk_lock.specs.Words.{LockView, PassView, IsOf, knowing}
use Rattle.desk_lock.proofs.Lists.{some_same, by_mine, by_length}
use Rattle.desk_lock.proofs.Knowing.{seat_pass, sees, adds}

module _ {S C A X K : Type 0} (next : S → Entry C → std.Result (S × A) X) where
  -- the pass q has seen the version t
  pub record Saw (l : LockView S C K) (q : PassView S C) (t : History S C) (p : PassView S C) : Type 0 where
    pub pass : p ≡ knowing q (with_seen q.known t.journal)
    pub of : IsOf next l p
    pub opening : t.opening ≡ q.known.opening
    pub seen : IsPrefix q.known.seen t.journal

  saw_by : (l : LockView S C K) (z : TableId) (o : S) (v : View S C K) (t : History S C) → IsOf next l (seat_pass z o v) → v.origin ≡ Some o → Some t.opening ≡ v.origin → Follows v t.journal → IsLegal next t.opening t.journal
      → Saw l (seat_pass z o v) t (seat_pass z o (record v { seen = t.journal }))
  saw_by l z o v t of is at f legal =
      let opening : t.opening ≡ o = some_same _ _ (at ∙ is) in
      record {
        pass = refl;
        of = sees next l (seat_pass z o v) t.journal of (subst (λ s. IsLegal next s t.journal) opening legal) f.begun (f.mine of.sound.begun of.sound.mine) f.below;
        opening = opening;
        seen = f.seen;
      }

  -- by the pass as callers see it, and the view that came of it
  pub saw : (l : LockView S C K) (q : PassView S C) (z : TableId) (o : S) (v : View S C K) (t : History S C) (w : PassView S C) → seat_pass z o v ≡ q → IsOf next l q → v.origin ≡ Some o → Some t.opening ≡ v.origin → Follows v t.journal
      → IsLegal next t.opening t.journal → w ≡ seat_pass z o (record v { seen = t.journal }) → Saw l q t w
  saw l q z o v t w is of origin at f legal new = subst (λ (p : PassView S C). IsOf next l p → Saw l p t w) is (λ off. subst (Saw l (seat_pass z o v) t) (sym new) (saw_by l z o v t off origin at f legal)) of

  -- the pass q has added the entry e after the version t
  pub record Added (l : LockView S C K) (q : PassView S C) (t : History S C) (e : Entry C) (p : PassView S C) : Type 0 where
    pub pass : p ≡ knowing q (with_entry q.known t.journal e)
    pub of : IsOf next l p
    pub opening : t.opening ≡ q.known.opening
    pub seen : IsPrefix q.known.seen t.journal
    pub own : length p.known.own ≡ length q.known.own + 1
    pub few : length q.known.own ≤ length t.journal

  added_by : (l : LockView S C K) (z : TableId) (o : S) (v : View S C K) (t n : History S C) (user : List ℕ) (moment : Moment) (call : C) → IsOf next l (seat_pass z o v) → v.origin ≡ Some o → Some t.opening ≡ v.origin → Follows v t.journal
      → IsLegal next n.opening n.journal → n ≡ grown t (entry_of (seat_pass z o v).known user moment call)
      → Added l (seat_pass z o v) t (entry_of (seat_pass z o v).known user moment call) (seat_pass z o (record v { seen = n.journal; own = by v.number (drop v.start n.journal) }))
  added_by l z o v t n user moment call of is at f legal new =
      let opening : t.opening ≡ o = some_same _ _ (at ∙ is) in
      let q = seat_pass z o v in
      let e : Entry C = entry_of q.known user moment call in
      let journal : n.journal ≡ t.journal ++ e ∷ [] = ap (λ (h : History S C). h.journal) new in
      let mine : by v.number (drop v.start t.journal) ≡ v.own = f.mine of.sound.begun of.sound.mine in
      let grows : by v.number (drop v.start n.journal) ≡ v.own ++ e ∷ [] = ap (λ l. by v.number (drop v.start l)) journal ∙ (ap (by v.number) (drop-append-le v.start t.journal (e ∷ []) f.begun) ∙ (by_mine v.number (drop v.start t.journal) e refl ∙ ap (λ l. l ++ e ∷ []) mine)) in
      let F : List (Entry C) × List (Entry C) → PassView S C = λ x. seat_pass z o (record v { seen = x.0; own = x.1 }) in
      let pass : F (n.journal, by v.number (drop v.start n.journal)) ≡ F (t.journal ++ e ∷ [], v.own ++ e ∷ []) = ap F (λ i. (journal i, grows i)) in
      let legal' : IsLegal next o (t.journal ++ e ∷ []) = subst (λ (x : S × List (Entry C)). IsLegal next x.0 x.1) (λ i. ((ap (λ (h : History S C). h.opening) new ∙ opening) i, journal i)) legal in
      let long = by_length v.number (drop v.start t.journal) in
      let parts : length (drop v.start t.journal) ≤ length t.journal = omega (arith, length-drop v.start t.journal) in
      let same = ap length mine in
      record {
        pass = pass;
        of = subst (IsOf next l) (sym pass) (adds next l q t.journal e of legal' f.begun mine f.below f.number refl refl);
        opening = opening;
        seen = f.seen;
        own = ap length grows ∙ length-append v.own (e ∷ []);
        few = omega arith;
      }

  pub added : (l : LockView S C K) (q : PassView S C) (z : TableId) (o : S) (v : View S C K) (t n : History S C) (user : List ℕ) (moment : Moment) (call : C) (e : Entry C) (w : PassView S C) → seat_pass z o v ≡ q → IsOf next l q → v.origin ≡ Some o
      → Some t.opening ≡ v.origin → Follows v t.journal → IsLegal next n.opening n.journal → e ≡ entry_of (seat_pass z o v).known user moment call → n ≡ grown t e
      → w ≡ seat_pass z o (record v { seen = n.journal; own = by v.number (drop v.start n.journal) }) → Added l q t (entry_of q.known user moment call) w
  added l q z o v t n user moment call e w is of origin at f legal entry new now = subst (λ (p : PassView S C). IsOf next l p → Added l p t (entry_of p.known user moment call) w) is
      (λ off. subst (Added l (seat_pass z o v) t (entry_of (seat_pass z o v).known user moment call)) (sym now) (added_by l z o v t n user moment call off origin at f legal (new ∙ ap (grown t) entry))) of

  -- the counts that the pass keeps fit
  pub fits : (l : LockView S C K) (q : PassView S C) (t : History S C) (e : Entry C) (p : PassView S C) (n : History S C) (mine len : ℕ) → Added l q t e p → mine ≡ length q.known.own → n.journal ≡ t.journal ++ e ∷ [] → len ≡ length n.journal → len < 2 ^ 64 → mine + 1 < 2 ^ 64
  fits l q t e p n mine len a is journal whole small = let more = ap length journal ∙ length-append t.journal (e ∷ []) in let f = a.few in omega arith

module _ {S C B K : Type 0} where
  -- the turn was given back after a commit
  pub left_so : (m1 mc m2 : Sat S C B K) (j o : List (Entry C)) (t : Turn C) (c : List (ℕ × Slot S C B K)) → mc ≡ (record m1.0 { seen = j; told = []; told_sure = 0; own = o; turn = t }, c) → m2 ≡ (record mc.0 { turn = NoTurn }, [])
      → m2.0 ≡ record m1.0 { seen = j; told = []; told_sure = 0; own = o; turn = NoTurn }
  left_so m1 mc m2 j o t c one two = ap (λ (x : Sat S C B K). x.0) two ∙ ap (λ (x : Sat S C B K). record x.0 { turn = NoTurn }) one

module _ {S C A X B K : Type 0} (next : S → Entry C → std.Result (S × A) X) (number : S → ℕ) where
  -- an accepted write, by what its steps told
  pub writes : (l : LockView S C K) (q : PassView S C) (z zz : TableId) (o : S) (m m1 m2 : Sat S C B K) (t : History S C) (g : List (Entry C)) (n : History S C) (k s : ℕ) (us user : List ℕ) (moment : Moment) (call : C) (least num : ℕ) (shown : A)
      → seat_pass z o m.0 ≡ q → IsOf next l q → m.0.origin ≡ Some o → IsOpen m t g m1 → IsLegal next n.opening n.journal → k ≡ m.0.number → s ≡ length m.0.own → us ≡ user
      → n ≡ grown t record { session = k; serial = s; user = us; moment = moment; call = call }
      → m2.0 ≡ record m1.0 { seen = n.journal; told = []; told_sure = 0; own = by m1.0.number (drop m1.0.start n.journal); turn = NoTurn } → zz ≡ z
      → num ≡ number (state_of next t) → least ≤ num → shown_by (next (state_of next t) record { session = k; serial = s; user = us; moment = moment; call = call }) ≡ std.Ok shown
      → Added next l q t (entry_of q.known user moment call) (seat_pass zz o m2.0) × Wrote next number q.known least user moment call (std.Ok shown) (seat_pass zz o m2.0).known
  writes l q z zz o m m1 m2 t g n k s us user moment call least num shown is of origin had legal session serial copied new left table counts judged told =
      let e : Entry C = record { session = k; serial = s; user = us; moment = moment; call = call } in
      let same : e ≡ entry_of (seat_pass z o m.0).known user moment call = λ i. record { session = session i; serial = serial i; user = copied i; moment = moment; call = call } in
      let whole : e ≡ entry_of q.known user moment call = same ∙ ap (λ (p : PassView S C). entry_of p.known user moment call) is in
      let now : seat_pass zz o m2.0 ≡ seat_pass z o (record m.0 { seen = n.journal; own = by m.0.number (drop m.0.start n.journal) }) = ap (λ y. seat_pass y o m2.0) table ∙ (ap (seat_pass z o) left ∙ ap (λ (u : View S C K). seat_pass z o (record u { seen = n.journal; own = by u.number (drop u.start n.journal) })) had.1) in
      let a = added next l q z o m.0 t n user moment call e (seat_pass zz o m2.0) is of origin had.2 had.3 legal same new now in
      let state : state_of next t ≡ replay next q.known.opening t.journal = ap (λ x. replay next x t.journal) a.opening in (
        a,
        (
          t.journal,
          a.seen,
          ap (λ (p : PassView S C). p.known) a.pass,
          subst (λ x. least ≤ number x) state (omega (arith, counts, judged)),
          subst (λ (x : S × Entry C). shown_by (next x.0 x.1) ≡ std.Ok shown) (λ i. (state i, whole i)) told,
        ),
      )
