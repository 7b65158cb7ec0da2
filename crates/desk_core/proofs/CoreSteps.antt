-- The steps of a core, as events of its world.
use Rattle.std.proofs.Common.{◌≡◌, ℕ, ◌+◌, ◌≤◌, List, [], ◌∷◌, ◌++◌, Option, Some, None, Ok, Err, length, take, refl, ap, sym, ◌∙◌, arith, length-append}
use Rattle.std.specs.Ordering.{nat_cmp}
use Rattle.std.specs.FinMap.Entries.{put, find}
use Rattle.std.specs.Option.{option_map}
use Rattle.cm_base.specs.declared.number.Moment.{Moment}
use Rattle.desk_model.specs.declared.entry.Entry.{Entry}
use Rattle.desk_model.specs.Histories.{History, replay, own, grown, shown_by, state_of}
use Rattle.desk_model.proofs.OwnEntries.{own-mine, own-length, prefix-le}
use Rattle.desk_core.specs.declared.event.Event.TheVariants.{Enter, Write, Look}
use Rattle.desk_core.specs.declared.event.Done.TheVariants.{Entered, Wrote, Looked}
use Rattle.desk_core.specs.declared.event.CoreStop.TheVariants.{Known, Refused}
use Rattle.desk_core.specs.Interleaving.{Rules, World, holds, holding, entry_by, verdict, happens, told}
use Rattle.desk_core.specs.Holds.{Hold, held_of, world_of, IsHold, IsCore}
use Rattle.desk_core.proofs.Holdings.{long, find-held, held-put, prefix-take}

none_under : {A B : Type 0} (f : A → B) (o : Option A) → option_map f o ≡ None → o ≡ None
none_under f None e = refl
none_under f (Some x) e = absurd (cc e)

pub not_held : {S C : Type 0} (b : ℕ) (v : History S C) (es : List (ℕ × Hold S C)) (s : ℕ) → holds (world_of b v es) s ≡ None → find nat_cmp s es ≡ None
not_held b v es s none = none_under long (find nat_cmp s es) (sym (find-held s es) ∙ none)

-- a hold of what the core began with, by who wasn't entered
pub begins-hold : {S C : Type 0} (b : ℕ) (begin v : History S C) (es : List (ℕ × Hold S C)) (s : ℕ) → IsCore b begin v es → holds (world_of b v es) s ≡ None → IsHold b v s (record { seen = begin; serial = 0 })
begins-hold b begin v es s c none = record { opening = c.opening; prefix = c.prefix; serial = sym (c.strangers s (not_held b v es s none)) }

-- a hold of the whole
pub whole-hold : {S C : Type 0} (b : ℕ) (v : History S C) (s n : ℕ) → n ≡ length (own b s v.journal) → IsHold b v s (record { seen = v; serial = n })
whole-hold b v s n is = record { opening = refl; prefix = ([], append_nil v.journal); serial = is }
  where
    append_nil : {A : Type 0} (xs : List A) → xs ++ [] ≡ xs
    append_nil [] = refl
    append_nil (x ∷ xs) = ap (λ ys. x ∷ ys) (append_nil xs)

-- the world in which one session holds something else
held-world : {S C : Type 0} (b : ℕ) (v : History S C) (es fs : List (ℕ × Hold S C)) (s : ℕ) (x : Hold S C) (n : ℕ) → fs ≡ put nat_cmp s x es → length x.seen.journal ≡ n
    → world_of b v fs ≡ holding (world_of b v es) v.journal s n
held-world b v es fs s x n is at =
    ap (λ h. record { opening = v.opening; base = b; journal = v.journal; held = h }) (ap held_of is ∙ (held-put s x es ∙ ap (λ k. put nat_cmp s k (held_of es)) at))

module _ {S C Q A X : Type 0} (m : Rules S C Q A X) where
  pub entered : (b : ℕ) (begin v : History S C) (es fs : List (ℕ × Hold S C)) (s n : ℕ) → IsCore b begin v es → holds (world_of b v es) s ≡ None
      → n ≡ m.number (state_of m.next begin) → fs ≡ put nat_cmp s (record { seen = begin; serial = 0 }) es
      → (told m (world_of b v es) (Enter s) ≡ Ok (Entered n)) × (world_of b v fs ≡ happens m (world_of b v es) (Enter s))
  entered b begin v es fs s n c none num is =
      let front : begin.journal ≡ take b v.journal = prefix-take begin.journal v.journal c.prefix ∙ ap (λ k. take k v.journal) (sym c.begun) in
      let there : n ≡ m.number (replay m.next v.opening (take b v.journal)) = num ∙ (ap (λ o. m.number (replay m.next o begin.journal)) c.opening ∙ ap (λ j. m.number (replay m.next v.opening j)) front) in
      (rw none (ap (λ k. Ok (Entered k)) (sym there)), rw none (held-world b v es fs s (record { seen = begin; serial = 0 }) b is (sym c.begun)))

  pub known_before : (w : World S C) (s k : ℕ) → holds w s ≡ Some k → (told m w (Enter s) ≡ Err Known) × (w ≡ happens m w (Enter s))
  known_before w s k some = (rw some refl, rw some refl)

  pub looked : (b : ℕ) (v : History S C) (es fs : List (ℕ × Hold S C)) (s k n serial : ℕ) → holds (world_of b v es) s ≡ Some k
      → n ≡ m.number (state_of m.next v) → fs ≡ put nat_cmp s (record { seen = v; serial = serial }) es
      → (told m (world_of b v es) (Look s) ≡ Ok (Looked n)) × (world_of b v fs ≡ happens m (world_of b v es) (Look s))
  looked b v es fs s k n serial some num is =
      (rw some (ap (λ k. Ok (Looked k)) (sym num)), rw some (held-world b v es fs s (record { seen = v; serial = serial }) (length v.journal) is refl))

  -- the entry that a session writes
  pub entry_so : (w : World S C) (s n : ℕ) (user : List ℕ) (moment : Moment) (call : C) → n ≡ length (own w.base s w.journal)
      → record { session = s; serial = n; user = user; moment = moment; call = call } ≡ entry_by w s user moment call
  entry_so w s n user moment call is = ap (λ k. record { session = s; serial = k; user = user; moment = moment; call = call }) is

  pub refused_so : (b : ℕ) (v : History S C) (es fs : List (ℕ × Hold S C)) (s k n serial : ℕ) (user : List ℕ) (moment : Moment) (call : C) (e : Entry C) (x : X) → holds (world_of b v es) s ≡ Some k
      → e ≡ entry_by (world_of b v es) s user moment call → shown_by (m.next (state_of m.next v) e) ≡ Err x
      → n ≡ m.number (state_of m.next v) → fs ≡ put nat_cmp s (record { seen = v; serial = serial }) es
      → (told m (world_of b v es) (Write s user moment call) ≡ Err (Refused x n)) × (world_of b v fs ≡ happens m (world_of b v es) (Write s user moment call))
  refused_so b v es fs s k n serial user moment call e x some entry verdict_is num is =
      let due : verdict m (world_of b v es) (entry_by (world_of b v es) s user moment call) ≡ Err x = ap (verdict m (world_of b v es)) (sym entry) ∙ verdict_is in
      (rw (some, due) (ap (λ k. Err (Refused x k)) (sym num)), rw (some, due) (held-world b v es fs s (record { seen = v; serial = serial }) (length v.journal) is refl))

  pub wrote_so : (b : ℕ) (v u : History S C) (es fs : List (ℕ × Hold S C)) (s k n serial : ℕ) (user : List ℕ) (moment : Moment) (call : C) (e : Entry C) (a : A) → holds (world_of b v es) s ≡ Some k
      → e ≡ entry_by (world_of b v es) s user moment call → shown_by (m.next (state_of m.next v) e) ≡ Ok a → u ≡ grown v e
      → n ≡ m.number (state_of m.next u) → fs ≡ put nat_cmp s (record { seen = u; serial = serial }) es
      → (told m (world_of b v es) (Write s user moment call) ≡ Ok (Wrote a n)) × (world_of b u fs ≡ happens m (world_of b v es) (Write s user moment call))
  wrote_so b v u es fs s k n serial user moment call e a some entry verdict_is grows num is =
      let f = entry_by (world_of b v es) s user moment call in
      let due : verdict m (world_of b v es) f ≡ Ok a = ap (verdict m (world_of b v es)) (sym entry) ∙ verdict_is in
      let after : u ≡ grown v f = grows ∙ ap (grown v) entry in
      let count : length u.journal ≡ length v.journal + 1 = ap (λ u. length u.journal) after ∙ length-append v.journal (f ∷ []) in
      let here : n ≡ m.number (replay m.next v.opening (v.journal ++ f ∷ [])) = num ∙ ap (λ u. m.number (state_of m.next u)) after in
      let held : held_of fs ≡ put nat_cmp s (length v.journal + 1) (held_of es) = ap held_of is ∙ (held-put s (record { seen = u; serial = serial }) es ∙ ap (λ k. put nat_cmp s k (held_of es)) count) in (
        rw (some, due) (ap (λ k. Ok (Wrote a k)) (sym here)),
        rw (some, due) (ap (λ h. record { opening = u.opening; base = b; journal = u.journal; held = h }) held
            ∙ ap (λ u. record { opening = u.opening; base = b; journal = u.journal; held = put nat_cmp s (length v.journal + 1) (held_of es) }) after),
      )

-- the number of the entries of a session, with one more, is no more than the length of the journal
pub serial_fits : {S C : Type 0} (b s n : ℕ) (begin v u : History S C) (es : List (ℕ × Hold S C)) (e : Entry C) → IsCore b begin v es → u ≡ grown v e → e.session ≡ s → n ≡ length (own b s v.journal) → n + 1 ≤ length u.journal
serial_fits b s n begin v u es e c grows session is =
    let begun : b ≤ length v.journal = omega (arith, c.begun, prefix-le begin.journal v.journal c.prefix) in
    let mine : own b s u.journal ≡ own b s v.journal ++ e ∷ [] = ap (λ u. own b s u.journal) grows ∙ own-mine b s v.journal e begun session in
    omega (arith, is, ap length mine, length-append (own b s v.journal) (e ∷ []), own-length b s u.journal)
