-- What a pass knows, by its seat's view; and that what it then knows is sound.
use Rattle.std.proofs.Common.{get_or, ◌≡◌, ℕ, ◌<◌, ◌≤◌, Bool, true, false, List, [], ◌∷◌, ◌++◌, length, drop, sym, refl, ap, ◌∙◌, subst, arith, length-append, Result, nat_lt, if◌then◌else◌, drop_of_length-le}
use Rattle.std.specs.Prelude as std
use Rattle.std.proofs.lemmas.List.{drop-append-le}
use Rattle.atomic_table.specs.Seated.{TableId}
use Rattle.desk_model.specs.declared.entry.Entry.{Entry}
use Rattle.desk_model.specs.Histories.{IsLegal, own, SessionsBelow}
use Rattle.desk_model.specs.Desks.{with_seen, with_entry}
use Rattle.desk_lock.specs.declared.board.View.{View}
use Rattle.desk_lock.specs.Numbers.{by, most_passes}
use Rattle.desk_lock.specs.Seats.{longer}
use Rattle.desk_lock.specs.Words.{LockView, PassView, IsOf, place_of, knowing, with_sure, made_by, first_pass}
use Rattle.desk_lock.proofs.Lists.{by_mine, counts_more, below_append}

-- tables with one place are one table
same_table : (y z : TableId) → place_of y ≡ place_of z → y ≡ z
same_table y z e i = record { words = get_or (e i) 0 0; slots = get_or (e i) 1 0; views_name = get_or (e i) 2 0; atom = get_or (e i) 3 0; block = get_or (e i) 4 0; offset = get_or (e i) 5 0; slot_names = drop 6 (e i) }

module _ {S C K : Type 0} where
  -- the pass of a seat
  abbrev pub seat_pass : TableId → S → View S C K → PassView S C
  seat_pass z o v = record { table = z; known = record { opening = o; base = v.start; session = v.number; seen = v.seen; own = v.own }; sure = v.sure; made = v.made; ended = v.ended }

module _ {S C A X K : Type 0} (next : S → Entry C → std.Result (S × A) X) where
  -- a pass that has seen a legal journal with the same own entries
  pub sees : (l : LockView S C K) (p : PassView S C) (g : List (Entry C)) → IsOf next l p → IsLegal next p.known.opening g → p.known.base ≤ length g → own p.known.base p.known.session g ≡ p.known.own
      → SessionsBelow most_passes (drop p.known.base g) → IsOf next l (knowing p (with_seen p.known g))
  sees l p g of legal begun mine below = record { table = of.table; opening = of.opening; base = of.base; below = below; sound = record { lawful = legal; begun = begun; mine = mine; serials = of.sound.serials } }

  -- how much a pass is sure of is no matter
  pub surely : (l : LockView S C K) (p : PassView S C) (n : ℕ) → IsOf next l p → IsOf next l (with_sure p n)
  surely l p n of = record { table = of.table; opening = of.opening; base = of.base; below = of.below; sound = of.sound }

  -- a pass with one more entry of its own
  pub adds : (l : LockView S C K) (p : PassView S C) (g : List (Entry C)) (e : Entry C) → IsOf next l p → IsLegal next p.known.opening (g ++ e ∷ []) → p.known.base ≤ length g → own p.known.base p.known.session g ≡ p.known.own
      → SessionsBelow most_passes (drop p.known.base g) → p.known.session < most_passes → e.session ≡ p.known.session → e.serial ≡ length p.known.own → IsOf next l (knowing p (with_entry p.known g e))
  adds l p g e of legal begun mine below few session serial =
      let b = p.known.base in let n = p.known.session in
      let cut : drop b (g ++ e ∷ []) ≡ drop b g ++ e ∷ [] = drop-append-le b g (e ∷ []) begun in
      record {
        table = of.table;
        opening = of.opening;
        base = of.base;
        below = subst (SessionsBelow most_passes) (sym cut) (below_append most_passes (drop b g) (e ∷ []) below (omega (arith, few, session), tt));
        sound = record {
          lawful = legal;
          begun = omega (arith, length-append g (e ∷ []), begun);
          mine = ap (by n) cut ∙ (by_mine n (drop b g) e session ∙ ap (λ (z : List (Entry C)). z ++ e ∷ []) mine);
          serials = counts_more 0 p.known.own e of.sound.serials (omega (arith, serial));
        };
      }

  -- of two passes of one lock the first sees the longer journal
  pub sees_longer : (l : LockView S C K) (p q : PassView S C) → IsOf next l p → IsOf next l q → own p.known.base p.known.session (longer p.known.seen q.known.seen) ≡ p.known.own → IsOf next l (knowing p (with_seen p.known (longer p.known.seen q.known.seen)))
  sees_longer l p q of off mine = pick (nat_lt (length p.known.seen) (length q.known.seen)) refl
    where
      Good : List (Entry C) → Type 0
      Good g = IsLegal next p.known.opening g × (p.known.base ≤ length g) × SessionsBelow most_passes (drop p.known.base g)

      all : Good p.known.seen → Good q.known.seen → (c : Bool) → Good (if c then q.known.seen else p.known.seen)
      all a b true = b
      all a b false = a

      one : Good p.known.seen
      one = (of.sound.lawful, of.sound.begun, of.below)

      two : Good q.known.seen
      two = subst (λ (x : S × ℕ). IsLegal next x.0 q.known.seen × (x.1 ≤ length q.known.seen) × SessionsBelow most_passes (drop x.1 q.known.seen)) (λ i. ((off.opening ∙ sym of.opening) i, (off.base ∙ sym of.base) i)) (off.sound.lawful, off.sound.begun, off.below)

      pick : (c : Bool) → nat_lt (length p.known.seen) (length q.known.seen) ≡ c → IsOf next l (knowing p (with_seen p.known (longer p.known.seen q.known.seen)))
      pick c e = let g = all one two (nat_lt (length p.known.seen) (length q.known.seen)) in sees l p (longer p.known.seen q.known.seen) of g.0 g.1 mine g.2

  -- the first pass of a lock
  pub begun_of : (l : LockView S C K) → IsLegal next l.version.opening l.version.journal → IsOf next l (first_pass l)
  begun_of l legal = record {
    table = refl;
    opening = refl;
    base = refl;
    below = subst (SessionsBelow most_passes) (sym (past l.version.journal)) tt;
    sound = record { lawful = legal; begun = omega arith; mine = ap (by 0) (past l.version.journal); serials = tt };
  }
    where
      past : (h : List (Entry C)) → drop (length h) h ≡ []
      past h = drop_of_length-le h (omega arith)

  -- a pass that the first one makes
  pub made_of : (l : LockView S C K) (p : PassView S C) → IsOf next l p → own p.known.base p.made p.known.seen ≡ [] → IsOf next l (made_by p)
  made_of l p of none = record { table = of.table; opening = of.opening; base = of.base; below = of.below; sound = record { lawful = of.sound.lawful; begun = of.sound.begun; mine = none; serials = tt } }

  -- a pass of some lock with the place, the opening and the beginning of a pass of the lock l is one of l
  pub back : (l d : LockView S C K) (p q : PassView S C) → IsOf next l p → IsOf next d q → place_of q.table ≡ place_of p.table → q.known.opening ≡ p.known.opening → q.known.base ≡ p.known.base → IsOf next l q
  back l d p q of off place opening base = record { table = same_table q.table p.table place ∙ of.table; opening = opening ∙ of.opening; base = base ∙ of.base; below = off.below; sound = off.sound }
