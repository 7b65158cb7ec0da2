-- What a keeper that is left tells.
use Rattle.std.proofs.Common.{◌≡◌, ◌≤◌, ℕ, Bool, IsTrue, List, length, Some, None, IfSome, refl, sym, ap, subst, ◌∙◌, arith, length-append}
use Rattle.std.specs.declared.option.Option.{Option}
use mathlib.Core.List.{IsPrefix}
use Rattle.outside.specs.Outside.{Rose}
use Rattle.disk.specs.Disks.{DiskTold}
use Rattle.disk.specs.Joining.{leaves_weaker}
use Rattle.byte_codec.specs.Codecs.{Codec}
use Rattle.desk_model.specs.declared.entry.Entry.{Entry}
use Rattle.desk_lock.specs.Board.{Front}
use Rattle.desk_lock.specs.Words.{Since}
use Rattle.journal_keeper.specs.declared.lost.Lost.{Lost}
use Rattle.journal_keeper.specs.declared.lost.Lost.TheVariants.{Disk}
use Rattle.journal_keeper.specs.Standing.{StandsForFront, Stand}
use Rattle.journal_keeper.specs.Stores.{KeeperTold, Stands, disk_of}
use Rattle.journal_keeper.specs.Went.{Went, longer}
use Rattle.journal_runs.specs.Leaves.{KeptIn}

prefix_length : {A : Type 0} (a b : List A) → IsPrefix a b → length a ≤ length b
prefix_length a b p = let e = ap length p.1 in omega (arith, length-append a p.0)

abbrev IsHeld : {A : Type 0} → Option A → Type 0
IsHeld None = ⊥
IsHeld (Some a) = Unit {0}

some_none : {A : Type 0} (X : Type 0) (a : A) → Some a ≡ None → X
some_none X a e = absurd (subst IsHeld e tt)

module _ {K C : Type 0} (tells : Bool) (told : K → DiskTold) (codec : Codec (Entry C)) (first : KeeperTold K) where
  -- what stands at a keeper that went on from the first one, by the first one's beginning
  stand_of : IsTrue tells → (k : KeeperTold K) (n : ℕ) (entries : List (Entry C)) → Since (Stands tells told codec) (Went tells told codec) first k n entries
      → Stand codec first.offset (told first.begun) (told (disk_of k.store)) n entries
  stand_of t k n entries s =
      subst (λ (o : ℕ). Stand codec o (told first.begun) (told (disk_of k.store)) n entries) s.1.offset
      (subst (λ (d : K). Stand codec k.offset (told d) (told (disk_of k.store)) n entries) s.1.begun (s.0.stand t))

  pub whole_kept : IsTrue tells → (k : KeeperTold K) (entries : List (Entry C)) (sure : ℕ)
      → (sure ≤ length entries) × Since (Stands tells told codec) (Went tells told codec) first k (length entries) entries
      → KeptIn codec first.offset (told first.begun) (told (disk_of k.store)) entries sure None
  whole_kept t k entries sure s =
      let stand = stand_of t k (length entries) entries s.1 in
      record {
        before = stand.before;
        began_with = stand.began_with;
        since = stand.since;
        settled = length entries;
        enough = s.0;
        within = omega arith;
        left = stand.left;
        whole = λ none. refl;
      }

  pub broken_kept : IsTrue tells → (k : KeeperTold K) (entries : List (Entry C)) (sure : ℕ) (lost : Option Lost)
      → Front (Since (Stands tells told codec) (Went tells told codec) first k) entries sure
      → KeptIn codec first.offset (told first.begun) (told (disk_of k.store)) entries sure (Some lost)
  broken_kept t k entries sure lost f =
      let stand = stand_of t k f.least f.whole f.stand in
      let some : (n : ℕ) (file : List ℕ) → StandsForFront codec first.offset stand.before n f.whole file → StandsForFront codec first.offset stand.before n entries file =
      λ n file s. longer codec first.offset stand.before n f.whole entries file f.begins s in
      record {
        before = stand.before;
        began_with = stand.began_with;
        since = leaves_weaker (StandsForFront codec first.offset stand.before 0 f.whole) (StandsForFront codec first.offset stand.before 0 entries) (some 0) (told first.begun) (told (disk_of k.store)) stand.since;
        settled = f.least;
        enough = f.enough;
        within = omega (arith, f.within, prefix_length f.whole entries f.begins);
        left = λ file may. some f.least file (stand.left file may);
        whole = λ none. some_none (f.least ≡ length entries) lost none;
      }

  -- the keeper began with the first one's disk
  pub whole_begun : (k : KeeperTold K) (entries : List (Entry C)) (sure : ℕ)
      → (sure ≤ length entries) × Since (Stands tells told codec) (Went tells told codec) first k (length entries) entries → k.begun ≡ first.begun
  whole_begun k entries sure s = s.1.1.begun

  pub broken_begun : (k : KeeperTold K) (entries : List (Entry C)) (sure : ℕ) → Front (Since (Stands tells told codec) (Went tells told codec) first k) entries sure → k.begun ≡ first.begun
  broken_begun k entries sure f = f.stand.1.begun

abbrev some_in : {A : Type 0} → A → Option A → A
some_in a None = a
some_in a (Some b) = b

-- the disk is the reason only where its count rose since the first keeper
pub rose_since : {K : Type 0} (told : K → DiskTold) (k first : KeeperTold K) (disk : K) (lost : Option Lost) → disk ≡ disk_of k.store → k.begun ≡ first.begun
    → IfSome lost (λ why. why ≡ Disk → Rose (told k.begun).faults (told (disk_of k.store)).faults) → Some lost ≡ Some (Some Disk) → Rose (told first.begun).faults (told disk).faults
rose_since {K = K} told k first disk lost is begun why same =
    let because : lost ≡ Some Disk = ap (some_in lost) same in
    let rose = subst (λ (o : Option Lost). IfSome o (λ why. why ≡ Disk → Rose (told k.begun).faults (told (disk_of k.store)).faults)) because why refl in
    subst (λ (d : K). Rose (told first.begun).faults (told d).faults) (sym is) (subst (λ (d : K). Rose (told d).faults (told (disk_of k.store)).faults) begun rose)
