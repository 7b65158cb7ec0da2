-- What the steps of one seat leave as it was.
use Rattle.std.proofs.Common.{◌≡◌, ◌≢◌, ℕ, ◌≤◌, List, [], ◌∷◌, ◌++◌, map, length, get_or, set, sym, refl, ap, ◌∙◌, subst, ⊎_elim, arith, append_assoc, length-set, get_or-set_other, get_or-set_same}
use mathlib.Core.Logic.{dite}
use mathlib.Core.Option.{some}
use mathlib.Core.Option as maybe
use mathlib.Core.List.{IsPrefix}
use native.Mathlib.Decide.{ℕ_discrete}
use lib.ListN.{get_elem?}
use lib.Seq.{set-get_or}
use Rattle.atomic_table.specs.Table.{State}
use Rattle.atomic_table.proofs.Lists.{at_set, set_here, set_else, at_longer, set_again}
use Rattle.desk_model.specs.declared.entry.Entry.{Entry}
use Rattle.desk_model.specs.Histories.{CountsFrom}
use Rattle.desk_lock.specs.declared.board.Store.{Store}
use Rattle.desk_lock.specs.declared.board.View.{View}
use Rattle.desk_lock.specs.declared.board.Turn.{Turn}
use Rattle.desk_lock.specs.declared.board.Turn.TheVariants.{NoTurn, HasTurn}
use Rattle.desk_lock.specs.declared.board.Hold.{Hold}
use Rattle.desk_lock.specs.declared.board.Hold.TheVariants.{NoShelf, HasShelf}
use Rattle.desk_lock.specs.Numbers.{Ranks, by}
use Rattle.desk_lock.specs.Seats.{Beginning}
use Rattle.desk_lock.specs.Board.{Slot, Now, KnowsTurn, KnowsShelf, Fits, Counted, Housed, Held, Manned, Kept, card, IsTurn, IsShelf, InTurn, AtShelf}
use Rattle.desk_lock.proofs.Lists.{inside, same_at, prefix_into}

abbrev pub St : Type 0 → Type 0 → Type 0 → Type 0 → Type 0
St S C A K = State (Slot S C A K) (View S C K)

module _ {S C K : Type 0} where
  -- a seat of a kind stays one of it
  pub held_on : (P : View S C K → Type 0) (views : List (View S C K)) (id : ℕ) (v w : View S C K) → get_elem? views id ≡ some v → (P v → P w) → (h : ℕ) → Held P views h → Held P (set views id w) h
  held_on P views id v w at way h x = dite (ℕ_discrete h id)
      (λ same. (w, subst (λ (z : ℕ). get_elem? (set views id w) z ≡ some w) (sym same) (set_here views id w (inside views id v at)), way (subst P (same_at views id x.0 v (subst (λ (z : ℕ). get_elem? views z ≡ some x.0) same x.1) at) x.2)))
      (λ other. (x.0, set_else views id h w other ∙ x.1, x.2))

  pub held_here : (P : View S C K → Type 0) (views : List (View S C K)) (id : ℕ) (v w : View S C K) → get_elem? views id ≡ some v → P w → Held P (set views id w) id
  held_here P views id v w at p = (w, set_here views id w (inside views id v at), p)

  pub held_more : (P : View S C K → Type 0) (views : List (View S C K)) (u : View S C K) (h : ℕ) → Held P views h → Held P (views ++ u ∷ []) h
  held_more P views u h x = (x.0, at_longer views (u ∷ []) h x.0 x.1, x.2)

  -- a seat that is not of the kind is not the one
  pub not_held : (P : View S C K → Type 0) (views : List (View S C K)) (id : ℕ) (v : View S C K) → get_elem? views id ≡ some v → ¬ P v → (h : ℕ) → Held P views h → h ≢ id
  not_held P views id v at never h x same = never (subst P (same_at views id x.0 v (subst (λ (z : ℕ). get_elem? views z ≡ some x.0) same x.1) at) x.2)

module _ {C : Type 0} where
  pub no_turn : (h owed : List (Entry C)) (turn holder j live : ℕ) (t : Turn C) → ¬ ((turn ≡ 1) × (j ≡ holder)) → KnowsTurn h owed turn holder j live t → t ≡ NoTurn
  no_turn h owed turn holder j live NoTurn never k = refl
  no_turn h owed turn holder j live (HasTurn a b) never k = absurd (never (k.0, k.1))

  pub no_shelf : (g : List (Entry C)) (shelf shower j live : ℕ) (t : Hold C) → ¬ ((shelf ≡ 1) × (j ≡ shower)) → KnowsShelf g shelf shower j live t → t ≡ NoShelf
  no_shelf g shelf shower j live NoShelf never k = refl
  no_shelf g shelf shower j live (HasShelf x) never k = absurd (never (k.0, k.1))

  pub turn_free : (h owed : List (Entry C)) (turn holder j live : ℕ) (t : Turn C) → t ≡ NoTurn → KnowsTurn h owed turn holder j live t
  turn_free h owed turn holder j live t is = subst (KnowsTurn h owed turn holder j live) (sym is) tt

  pub shelf_free : (g : List (Entry C)) (shelf shower j live : ℕ) (t : Hold C) → t ≡ NoShelf → KnowsShelf g shelf shower j live t
  shelf_free g shelf shower j live t is = subst (KnowsShelf g shelf shower j live) (sym is) tt

  pub not_turn : (t : Turn C) → t ≡ NoTurn → ¬ IsTurn t
  not_turn t is h = subst IsTurn is h

  pub not_shelf : (t : Hold C) → t ≡ NoShelf → ¬ IsShelf t
  not_shelf t is h = subst IsShelf is h

  -- the words, where one of them has changed
  pub count_word : (words : List ℕ) (n n' : Now C) (x : ℕ) → Counted words n → x ≡ length n'.news → n.turn ≡ n'.turn → n.shelf ≡ n'.shelf → length n.shelved ≡ length n'.shelved → Counted (set words 0 x) n'
  count_word words n n' x c is turn shelf number = let wide = c.wide in record {
    wide = length-set words 0 x ∙ c.wide;
    count = get_or-set_same words 0 x 0 (omega arith) ∙ is;
    turn = get_or-set_other words 0 1 x 0 (λ q. omega arith) ∙ (c.turn ∙ turn);
    shelf = get_or-set_other words 0 2 x 0 (λ q. omega arith) ∙ (c.shelf ∙ shelf);
    shelf_number = get_or-set_other words 0 3 x 0 (λ q. omega arith) ∙ (c.shelf_number ∙ number);
  }

  pub turn_word : (words : List ℕ) (n n' : Now C) (x : ℕ) → Counted words n → x ≡ n'.turn → length n.news ≡ length n'.news → n.shelf ≡ n'.shelf → length n.shelved ≡ length n'.shelved → Counted (set words 1 x) n'
  turn_word words n n' x c is count shelf number = let wide = c.wide in record {
    wide = length-set words 1 x ∙ c.wide;
    count = get_or-set_other words 1 0 x 0 (λ q. omega arith) ∙ (c.count ∙ count);
    turn = get_or-set_same words 1 x 0 (omega arith) ∙ is;
    shelf = get_or-set_other words 1 2 x 0 (λ q. omega arith) ∙ (c.shelf ∙ shelf);
    shelf_number = get_or-set_other words 1 3 x 0 (λ q. omega arith) ∙ (c.shelf_number ∙ number);
  }

  pub shelf_word : (words : List ℕ) (n n' : Now C) (x : ℕ) → Counted words n → x ≡ n'.shelf → length n.news ≡ length n'.news → n.turn ≡ n'.turn → length n.shelved ≡ length n'.shelved → Counted (set words 2 x) n'
  shelf_word words n n' x c is count turn number = let wide = c.wide in record {
    wide = length-set words 2 x ∙ c.wide;
    count = get_or-set_other words 2 0 x 0 (λ q. omega arith) ∙ (c.count ∙ count);
    turn = get_or-set_other words 2 1 x 0 (λ q. omega arith) ∙ (c.turn ∙ turn);
    shelf = get_or-set_same words 2 x 0 (omega arith) ∙ is;
    shelf_number = get_or-set_other words 2 3 x 0 (λ q. omega arith) ∙ (c.shelf_number ∙ number);
  }

  pub number_word : (words : List ℕ) (n n' : Now C) (x : ℕ) → Counted words n → x ≡ length n'.shelved → length n.news ≡ length n'.news → n.turn ≡ n'.turn → n.shelf ≡ n'.shelf → Counted (set words 3 x) n'
  number_word words n n' x c is count turn shelf = let wide = c.wide in record {
    wide = length-set words 3 x ∙ c.wide;
    count = get_or-set_other words 3 0 x 0 (λ q. omega arith) ∙ (c.count ∙ count);
    turn = get_or-set_other words 3 1 x 0 (λ q. omega arith) ∙ (c.turn ∙ turn);
    shelf = get_or-set_other words 3 2 x 0 (λ q. omega arith) ∙ (c.shelf ∙ shelf);
    shelf_number = get_or-set_same words 3 x 0 (omega arith) ∙ is;
  }

  pub round_word : (words : List ℕ) (n : Now C) (x : ℕ) → Counted words n → Counted (set words 4 x) n
  round_word words n x c = record {
    wide = length-set words 4 x ∙ c.wide;
    count = get_or-set_other words 4 0 x 0 (λ q. omega arith) ∙ c.count;
    turn = get_or-set_other words 4 1 x 0 (λ q. omega arith) ∙ c.turn;
    shelf = get_or-set_other words 4 2 x 0 (λ q. omega arith) ∙ c.shelf;
    shelf_number = get_or-set_other words 4 3 x 0 (λ q. omega arith) ∙ c.shelf_number;
  }

module _ {S C K : Type 0} (base : Beginning S C K) where
  -- what is settled begins the history
  pub settled_front : (n : Now C) → n.news ≡ n.shelved ++ n.owed → IsPrefix (base.version.journal ++ n.shelved) (base.version.journal ++ n.news)
  settled_front n level = (n.owed, append_assoc base.version.journal n.shelved n.owed ∙ ap (λ (z : List (Entry C)). base.version.journal ++ z) (sym level))

  -- a seat without the turn, where the history and what is settled have at most become longer
  pub quiet : (n n' : Now C) (j : ℕ) (u : View S C K) → u.turn ≡ NoTurn → IsPrefix n.news n'.news → length n.shelved ≤ length n'.shelved → (u.live ≡ 1 → by u.number n'.news ≡ u.own)
      → KnowsShelf (base.version.journal ++ n'.shelved) n'.shelf n'.shower j u.live u.shelf → Fits base n j u → Fits base n' j u
  quiet n n' j u is more long own shelf f = let a = f.sure in let b = f.told_sure in record {
    origin = f.origin;
    keeper = f.keeper;
    start = f.start;
    seen = prefix_into u.seen base.version.journal n.news n'.news f.seen more;
    told = prefix_into u.told base.version.journal n.news n'.news f.told more;
    sure = omega arith;
    told_sure = omega arith;
    own = own;
    turn = turn_free _ _ _ _ _ _ u.turn is;
    shelf = shelf;
  }

  -- a seat without the shelf, where only who has the shelf has changed
  pub off_shelf : (n : Now C) (shelf shower j : ℕ) (u : View S C K) → u.shelf ≡ NoShelf → Fits base n j u → Fits base (record n { shelf = shelf; shower = shower }) j u
  off_shelf n shelf shower j u is f = record { origin = f.origin; keeper = f.keeper; start = f.start; seen = f.seen; told = f.told; sure = f.sure; told_sure = f.told_sure; own = f.own; turn = f.turn; shelf = shelf_free _ _ _ _ _ u.shelf is }

module _ {S C A K : Type 0} {stands : K → Store K → List (Entry C) → List (Entry C) → Type 0} (base : Beginning S C K) where
  -- the rule after a step of the seat id
  pub build : (s : St S C A K) (id : ℕ) (v w : View S C K) → get_elem? s.views id ≡ some v → (words' : List ℕ) (homes' : List (maybe.Option (Slot S C A K))) (n' : Now C)
      → Counted words' n' → n'.news ≡ n'.shelved ++ n'.owed → Housed stands base homes' n' → Manned (set s.views id w) n' → Fits base n' id w
      → ((j : ℕ) (u : View S C K) → j ≢ id → get_elem? s.views j ≡ some u → Fits base n' j u)
      → ((k : ℕ) → CountsFrom 0 (by k n'.news)) → Ranks n'.news (map card (set s.views id w))
      → Kept stands base record { words = words'; homes = homes'; views = set s.views id w }
  build s id v w at words' homes' n' words level slots manned mine others serials ranks = record {
    now = n';
    words = words;
    level = level;
    slots = slots;
    manned = manned;
    each = λ j u e. ⊎_elim
        (λ (t : (j ≡ id) × (w ≡ u)). subst (λ (x : ℕ × View S C K). Fits base n' x.0 x.1) (λ i. (sym t.0 i, t.1 i)) mine)
        (λ (t : (j ≢ id) × (get_elem? s.views j ≡ some u)). others j u t.0 t.1) (at_set s.views id j w u e);
    serials = serials;
    ranks = ranks;
  }

  -- nothing changes
  pub same : (s : St S C A K) (i id : ℕ) (v : View S C K) → get_elem? s.views id ≡ some v → Kept stands base s → Kept stands base record { words = set s.words i (get_or s.words i 0); homes = s.homes; views = set s.views id v }
  same s i id v at r = subst (λ (x : List ℕ × List (View S C K)). Kept stands base record { words = x.0; homes = s.homes; views = x.1 }) (λ k. (sym (set-get_or s.words i 0) k, sym (set_again s.views id v at) k)) r

  -- a load, at which only the seat's view changes
  pub loaded : (s : St S C A K) (i id : ℕ) (v w : View S C K) → get_elem? s.views id ≡ some v → card w ≡ card v → (InTurn v → InTurn w) → (AtShelf v → AtShelf w) → (r : Kept stands base s) → Fits base r.now id w
      → Kept stands base record { words = set s.words i (get_or s.words i 0); homes = s.homes; views = set s.views id w }
  loaded s i id v w at cards turn shelf r mine = subst (λ (ws : List ℕ). Kept stands base record { words = ws; homes = s.homes; views = set s.views id w }) (sym (set-get_or s.words i 0))
      (build s id v w at s.words s.homes r.now r.words r.level r.slots
      record { turn = λ ne. held_on InTurn s.views id v w at turn r.now.holder (r.manned.turn ne); shelf = λ ne. held_on AtShelf s.views id v w at shelf r.now.shower (r.manned.shelf ne) }
      mine (λ j u other there. r.each j u there) r.serials (subst (Ranks r.now.news) (sym (Rattle.desk_lock.proofs.Ranking.cards_stay s.views id v w at cards)) r.ranks))
