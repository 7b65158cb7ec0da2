-- What a keeper was given.
use Rattle.std.proofs.Common.{◌≡◌, ℕ, ◌≤◌, List, [], ◌∷◌, ◌++◌, length, take, sym, refl, ap, ◌∙◌, subst, arith, length-append, append-nil, append_assoc, Option, Some}
use mathlib.Core.List.{IsPrefix}
use Rattle.std.specs.Arc.{arc_value}
use Rattle.std_alloc.specs.declared.arc.Arc.{Arc}
use Rattle.desk_model.specs.declared.entry.Entry.{Entry}
use Rattle.desk_model.specs.Histories.{History, grown}
use Rattle.desk_lock.specs.declared.board.Store.{Store}
use Rattle.desk_lock.specs.declared.board.Store.TheVariants.{Absent, Whole, Broken}
use Rattle.desk_lock.specs.declared.board.Laid.{Laid}
use Rattle.desk_lock.specs.Board.{Front, AtHome, IsBroken, Keeps, KeepsSince, Settled}
use Rattle.desk_lock.specs.Words.{HasFailed, Since}
use Rattle.desk_lock.proofs.Lists.{prefix_self, nil_of}

module _ {X : Type 0} where
  front : (h m : List X) → take (length h) (h ++ m) ≡ h
  front [] m = refl
  front (x ∷ h) m = ap (λ (z : List X). x ∷ z) (front h m)

  pub long_of : (g l : List X) → IsPrefix g l → length g ≤ length l
  long_of g l p = let all = ap length (sym p.1) ∙ length-append g p.0 in omega arith

  -- a keeper at which g stands may be given what goes on from g
  pub keep_ready : (stands : ℕ → List X → Type 0) (g l : List X) (k : ℕ) → IsPrefix g l → k ≡ length g → stands k g → stands k (take k l)
  keep_ready stands g l k p long kept =
      let is : take k l ≡ g = ap (λ (z : ℕ). take z l) long ∙ (ap (take (length g)) (sym p.1) ∙ front g p.0) in
      subst (stands k) (sym is) kept

  -- and all of it stands where nothing goes on from g
  pub all_stands : (stands : ℕ → List X → Type 0) (g l : List X) (k : ℕ) → IsPrefix g l → k ≡ length g → k ≡ length l → stands (length g) g → stands (length l) l
  all_stands stands g l k p long whole kept =
      let none : p.0 ≡ [] = nil_of p.0 (let a = ap length (sym p.1) ∙ length-append g p.0 in omega arith) in
      let is : g ≡ l = sym (append-nil g) ∙ (ap (λ (z : List X). g ++ z) (sym none) ∙ p.1) in
      subst (λ (z : List X). stands (length z) z) is kept

  -- and where it failed, a front of that stands, with at least g
  pub keep_failed : (stands : ℕ → List X → Type 0) (g l : List X) (k : ℕ) → IsPrefix g l → k ≡ length g → stands k l → Front stands l (length g)
  keep_failed stands g l k p long stand = record { whole = l; begins = prefix_self l; least = k; enough = omega arith; within = (let a = long_of g l p in omega arith); stand = stand }

  pub prefix_on : (g h j : List X) → IsPrefix g h → IsPrefix h j → IsPrefix g j
  prefix_on g h j p q = (p.0 ++ q.0, sym (append_assoc g p.0 q.0) ∙ (ap (λ (z : List X). z ++ q.0) p.1 ∙ q.1))

  front_more : (stands : ℕ → List X → Type 0) (h j : List X) (n : ℕ) → IsPrefix h j → Front stands h n → Front stands j n
  front_more stands h j n p f = record {
    whole = f.whole;
    begins = prefix_on f.whole h j f.begins p;
    least = f.least;
    enough = f.enough;
    within = f.within;
    stand = f.stand;
  }

  front_less : (stands : ℕ → List X → Type 0) (j : List X) (m n : ℕ) → m ≤ n → Front stands j n → Front stands j m
  front_less stands j m n few f = let e = f.enough in record { whole = f.whole; begins = f.begins; least = f.least; enough = omega arith; within = f.within; stand = f.stand }

module _ {C K : Type 0} (stands : K → ℕ → List (Entry C) → Type 0) where
  -- what is settled stays so in a longer history
  pub keeps_more : (faults : K → ℕ) (store : Store K) (g h j : List (Entry C)) → IsPrefix h j → Keeps stands faults store g h → Keeps stands faults store g j
  keeps_more faults Absent g h j p k = k
  keeps_more faults (Whole keeper) g h j p k = k
  keeps_more faults (Broken keeper) g h j p k = (front_more (stands keeper) h j (length g) p k.0, k.1)

  -- fewer entries are sure
  pub settled_less : (store : Store K) (j : List (Entry C)) (m n : ℕ) → m ≤ n → Settled stands store j n → Settled stands store j m
  settled_less Absent j m n few s = s
  settled_less (Whole keeper) j m n few s = let a = s.0 in (omega arith, s.1)
  settled_less (Broken keeper) j m n few s = front_less (stands keeper) j m n few s

module _ {C K : Type 0} (went : K → K → ℕ → List (Entry C) → Type 0) (joins : (first mid last : K) (m n : ℕ) (g h : List (Entry C)) → went first mid m g → went mid last n h → m ≤ n → IsPrefix g h → went first last m h) where
  -- what a keeper was given, it goes on from the first one
  pub goes_on_from : (first mid last : K) (g l : List (Entry C)) (k : ℕ) → IsPrefix g l → k ≡ length g → went first mid 0 g → went mid last k l → went first last 0 l
  goes_on_from first mid last g l k p long one more = joins first mid last 0 k g l one more (omega arith) p

module _ {C K : Type 0} (stands : K → ℕ → List (Entry C) → Type 0) (went : K → K → ℕ → List (Entry C) → Type 0) where
  -- the first keeper goes on from itself
  pub since_begun : (first k : K) (g : List (Entry C)) → first ≡ k → ((k : K) (n : ℕ) (h : List (Entry C)) → went k k n h) → stands k (length g) g → Since stands went first k (length g) g
  since_begun first k g is at_once kept = (kept, subst (λ (x : K). went x k 0 g) (sym is) (at_once k 0 g))

  -- at a keeper that has not failed
  pub whole_since : (faults : K → ℕ) (first keeper : K) (store : Store K) (g h : List (Entry C)) (n : ℕ) → n ≡ length g → store ≡ Whole keeper → KeepsSince stands went faults first store g h → Since stands went first keeper n g
  whole_since faults first keeper store g h n long is kept =
      let since : Since stands went first keeper (length g) g = subst (λ (s : Store K). KeepsSince stands went faults first s g h) is kept in
      (subst (λ (m : ℕ). stands keeper m g) (sym long) since.0, since.1)

  -- what is kept, by the same first keeper
  pub keeps_by : (faults : K → ℕ) (k l : K) (store : Store K) (g h : List (Entry C)) → k ≡ l → KeepsSince stands went faults k store g h → KeepsSince stands went faults l store g h
  keeps_by faults k l store g h is kept = subst (λ (x : K). KeepsSince stands went faults x store g h) is kept

  -- at the end a keeper may be given what is owed
  pub rest_ready : (faults : K → ℕ) (first keeper : K) (store : Store K) (g l : List (Entry C)) (n : ℕ) → store ≡ Whole keeper → IsPrefix g l → n ≡ length g → KeepsSince stands went faults first store g l → stands keeper n (take n l)
  rest_ready faults first keeper store g l n is p long kept = keep_ready (stands keeper) g l n p long (whole_since faults first keeper store g l n long is kept).0

  -- nothing is owed
  pub rest_whole : (faults : K → ℕ) (first keeper : K) (store : Store K) (g l : List (Entry C)) (n : ℕ) → store ≡ Whole keeper → IsPrefix g l → n ≡ length g → n ≡ length l → KeepsSince stands went faults first store g l → Settled (Since stands went first) (Whole keeper) l n
  rest_whole faults first keeper store g l n is p long whole kept = (omega arith, all_stands (Since stands went first keeper) g l n p long whole (whole_since faults first keeper store g l (length g) refl is kept))

  -- what was owed is kept
  pub rest_kept : (faults : K → ℕ) (joins : (first mid last : K) (m n : ℕ) (g h : List (Entry C)) → went first mid m g → went mid last n h → m ≤ n → IsPrefix g h → went first last m h) (first keeper last : K) (store : Store K) (g l : List (Entry C)) (n : ℕ) → store ≡ Whole keeper → IsPrefix g l → n ≡ length g → KeepsSince stands went faults first store g l
      → stands last (length l) l → went keeper last n l → Settled (Since stands went first) (Whole last) l n
  rest_kept faults joins first keeper last store g l n is p long kept all on =
      let few = long_of g l p in (omega arith, (all, goes_on_from went joins first keeper last g l n p long (whole_since faults first keeper store g l n long is kept).1 on))

  -- or the keeper has failed
  pub rest_failed : (faults : K → ℕ) (joins : (first mid last : K) (m n : ℕ) (g h : List (Entry C)) → went first mid m g → went mid last n h → m ≤ n → IsPrefix g h → went first last m h) (first keeper last : K) (store : Store K) (g l : List (Entry C)) (n : ℕ) → store ≡ Whole keeper → IsPrefix g l → n ≡ length g → KeepsSince stands went faults first store g l
      → stands last n l → went keeper last n l → Settled (Since stands went first) (Broken last) l n
  rest_failed faults joins first keeper last store g l n is p long kept some on =
      let few = long_of g l p in record {
        whole = l;
        begins = prefix_self l;
        least = n;
        enough = omega arith;
        within = omega arith;
        stand = (some, goes_on_from went joins first keeper last g l n p long (whole_since faults first keeper store g l n long is kept).1 on);
      }

  -- a keeper that has failed before is left so
  pub rest_left : (faults : K → ℕ) (first : K) (store : Store K) (g l : List (Entry C)) (n : ℕ) → ((k : K) → store ≡ Whole k → ⊥) → n ≡ length g → KeepsSince stands went faults first store g l → Settled (Since stands went first) store l n
  rest_left faults first Absent g l n not long kept = kept
  rest_left faults first (Whole k) g l n not long kept = absurd (not k refl)
  rest_left faults first (Broken k) g l n not long kept = subst (Front (Since stands went first k) l) (sym long) kept.0

  -- and that it has is known
  pub rest_broken : (faults : K → ℕ) (first : K) (store : Store K) (g l : List (Entry C)) → KeepsSince stands went faults first store g l → IsBroken store → HasFailed faults
  rest_broken faults first Absent g l kept broken = absurd broken
  rest_broken faults first (Whole k) g l kept broken = absurd broken
  rest_broken faults first (Broken k) g l kept broken = kept.1

  pub settled_by : (k l : K) (store : Store K) (j : List (Entry C)) (n : ℕ) → k ≡ l → Settled (Since stands went k) store j n → Settled (Since stands went l) store j n
  settled_by k l store j n is s = subst (λ (x : K). Settled (Since stands went x) store j n) is s

module _ {S C A : Type 0} where
  -- a version with one entry more
  pub goes_on : (t : History S C) (n w : Arc (History S C) A) (e : Entry C) → w ≡ n → arc_value n ≡ grown t e → IsPrefix t.journal (arc_value w).journal
  goes_on t n w e same new = (e ∷ [], sym (ap (λ (z : History S C). z.journal) (ap arc_value same ∙ new)))

module _ {S C A K : Type 0} (stands : K → ℕ → List (Entry C) → Type 0) (went : K → K → ℕ → List (Entry C) → Type 0) (faults : K → ℕ) where
  -- what lies at home, with a version that has one entry more
  pub longer_home : (o o' : Option K) (a : Laid (Arc (History S C) A) K) (g : List (Entry C)) (n w again : Arc (History S C) A) (e : Entry C) → IsPrefix g (arc_value a.version).journal → AtHome (KeepsSince stands went faults) o a g → o' ≡ o
      → w ≡ n → arc_value n ≡ grown (arc_value a.version) e → arc_value again ≡ arc_value n
      → IsPrefix g (arc_value w).journal × AtHome (KeepsSince stands went faults) o' (record { version = w; again = Some again; settled = a.settled; store = a.store }) g
  longer_home o o' a g n w again e p home kept same new twice =
      let on = goes_on (arc_value a.version) n w e same new in (
        prefix_on g (arc_value a.version).journal (arc_value w).journal p on,
        record {
          first = home.first;
          begun = kept ∙ home.begun;
          keeps = keeps_more (Since stands went home.first) faults a.store g (arc_value a.version).journal (arc_value w).journal on home.keeps;
          settled = home.settled;
          again = twice ∙ ap arc_value (sym same);
        },
      )
