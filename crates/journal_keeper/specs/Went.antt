-- What stood in the file of a keeper's journal from one keeper to a later one.
use Rattle.std.proofs.Common.{◌≡◌, ◌≤◌, ℕ, Bool, IsTrue, List, ◌++◌, refl, sym, ap, subst, ◌∙◌, append_assoc}
use Rattle.std.proofs.Math.Nat.{le_trans}
use mathlib.Core.List.{IsPrefix}
use Rattle.disk.specs.Disks.{DiskTold}
use Rattle.disk.specs.Crashes.{LeavesSince}
use Rattle.disk.specs.Joining.{started, leaves_weaker, follows_on}
use Rattle.journal_file.specs.Records.{StandsFor}
use Rattle.byte_codec.specs.Codecs.{Codec}
use Rattle.desk_model.specs.declared.entry.Entry.{Entry}
use Rattle.journal_keeper.specs.Standing.{StandsForFront}
use Rattle.journal_keeper.specs.Stores.{KeeperTold, disk_of}

-- Both keepers began with one disk and one offset; and where the file stood for these payloads then, a crash at each moment from the old keeper to the new one
-- has left them, and behind them a front of these entries with at least the first n.
pub record Went {K C : Type 0} (tells : Bool) (told : K → DiskTold) (codec : Codec (Entry C)) (old new : KeeperTold K) (n : ℕ) (entries : List (Entry C)) : Type 0 where
  pub begun : new.begun ≡ old.begun
  pub offset : new.offset ≡ old.offset
  pub since : IsTrue tells → (before : List (List ℕ)) → StandsFor before (told old.begun).file.seen
      → LeavesSince (StandsForFront codec old.offset before n entries) (told (disk_of old.store)) (told (disk_of new.store))

module _ {C : Type 0} (codec : Codec (Entry C)) (offset : ℕ) (before : List (List ℕ)) where
  -- a front with so many entries is one with fewer
  pub fewer : (m n : ℕ) (h : List (Entry C)) (file : List ℕ) → m ≤ n → StandsForFront codec offset before n h file → StandsForFront codec offset before m h file
  fewer m n h file le f = record { front = f.front; begins = f.begins; least = le_trans le f.least; have_codes = f.have_codes; stands = f.stands }

  -- a front of the first entries is one of all
  pub longer : (n : ℕ) (g h : List (Entry C)) (file : List ℕ) → IsPrefix g h → StandsForFront codec offset before n g file → StandsForFront codec offset before n h file
  longer n g h file p f = record {
    front = f.front;
    begins = (f.begins.0 ++ p.0, sym (append_assoc f.front f.begins.0 p.0) ∙ (ap (λ (l : List (Entry C)). l ++ p.0) f.begins.1 ∙ p.1));
    least = f.least;
    have_codes = f.have_codes;
    stands = f.stands;
  }

module _ {K C : Type 0} (tells : Bool) (told : K → DiskTold) (codec : Codec (Entry C)) where
  -- nothing happens
  pub went_at_once : (k : KeeperTold K) (n : ℕ) (h : List (Entry C)) → Went tells told codec k k n h
  went_at_once k n h = record {
    begun = refl;
    offset = refl;
    since = λ t before stood. started (StandsForFront codec k.offset before n h) (told (disk_of k.store));
  }

  -- one run after another
  pub went_joins : (first mid last : KeeperTold K) (m n : ℕ) (g h : List (Entry C)) → Went tells told codec first mid m g → Went tells told codec mid last n h → m ≤ n → IsPrefix g h → Went tells told codec first last m h
  went_joins first mid last m n g h one more le p = record {
    begun = more.begun ∙ one.begun;
    offset = more.offset ∙ one.offset;
    since = λ t before stood.
        let old = told (disk_of first.store) in
        let now = told (disk_of mid.store) in
        let late = told (disk_of last.store) in
        let on = subst (λ (x : ℕ). LeavesSince (StandsForFront codec x before n h) now late) one.offset
        (more.since t before (subst (λ (x : K). StandsFor before (told x).file.seen) (sym one.begun) stood)) in
        follows_on (StandsForFront codec first.offset before m h) (StandsForFront codec first.offset before n h) (λ file f. fewer codec first.offset before m n h file le f) old now late
        (leaves_weaker (StandsForFront codec first.offset before m g) (StandsForFront codec first.offset before m h) (λ file f. longer codec first.offset before m g h file p f) old now
        (one.since t before stood)) on;
  }
