-- What a crash leaves of the file of a keeper's journal, where a batch of entries was put and where it was not.
use Rattle.std.proofs.Common.{◌≡◌, inl, inr, ℕ, ◌≤◌, List, [], ◌∷◌, ◌++◌, length, take, drop, refl, sym, ap, subst, ◌∙◌, arith, append_assoc, append-nil, length-append, IsTrue, Bool}
use Rattle.std.specs.List.{AllByRecursion}
use mathlib.Core.List.{IsPrefix}
use Rattle.std.proofs.lemmas.List.{ext_get_or, map-append, take-append-drop, length-take}
use Rattle.disk.specs.Disks.{FileTold, DiskTold}
use Rattle.disk.specs.Crashes.{MayLeave, IsSynced, LeavesOnly, LeavesSince, moments, farthest, is_within}
use Rattle.disk.specs.Joining.{started, leaves_weaker, follows_on}
use Rattle.journal_file.specs.Records.{StandsFor, IsBeforeOrAfter, IsClosedAt}
use Rattle.byte_codec.specs.Codecs.{Codec}
use Rattle.desk_model.specs.declared.entry.Entry.{Entry}
use Rattle.journal_keeper.specs.Recorded.{shifted, payloads, HaveCodes}
use Rattle.journal_keeper.specs.declared.store.Store.{Store}
use Rattle.journal_keeper.specs.Standing.{StandsForFront, Stand}
use Rattle.journal_keeper.specs.Went.{Went, fewer, longer}
use Rattle.journal_keeper.specs.Stores.{KeeperTold, Stands, disk_of}

-- ---- crashes

farthest_least : (end : ℕ) (ranges : List (ℕ × ℕ)) → end ≤ farthest end ranges
farthest_least end [] = omega arith
farthest_least end (range ∷ ranges) = omega (arith, farthest_least end ranges)

-- a crash may leave what was synced
pub synced_left : (P : List ℕ → Type 0) (file : FileTold) → LeavesOnly P file → P file.synced
synced_left P file only = only file.synced record {
  no_shorter = omega arith;
  no_longer = farthest_least (length file.synced) file.written;
  stays = λ place lt out. refl;
}

pub seen_left : (P : List ℕ → Type 0) (file : FileTold) → IsSynced file → LeavesOnly P file → P file.seen
seen_left P file is only = subst P is.synced (synced_left P file only)

-- a crash leaves what was synced alone, where nothing was written since
only_synced : (file : FileTold) (left : List ℕ) → IsSynced file → MayLeave file left → left ≡ file.seen
only_synced file left is may =
    let far : farthest (length file.synced) file.written ≡ length file.synced = ap (λ (r : List (ℕ × ℕ)). farthest (length file.synced) r) is.written in
    let long : length left ≡ length file.synced = omega (arith, may.no_shorter, may.no_longer, far) in
    ext_get_or 0 left file.synced long (λ i lt. may.stays i (omega (arith, lt, long)) (ap (λ (r : List (ℕ × ℕ)). is_within r i) is.written)) ∙ is.synced

pub only_seen : (P : List ℕ → Type 0) (file : FileTold) → IsSynced file → P file.seen → LeavesOnly P file
only_seen P file is p = λ left may. subst P (sym (only_synced file left is may)) p

-- the last of a list, or this one where it is empty
abbrev last : {A : Type 0} → A → List A → A
last d [] = d
last d (x ∷ xs) = last x xs

last_more : {A : Type 0} (d x : A) (xs ys : List A) → last d ((xs ++ x ∷ []) ++ ys) ≡ last x ys
last_more d x [] ys = refl
last_more d x (z ∷ zs) ys = last_more z x zs ys

all_last : {A : Type 0} (P : A → Type 0) (d : A) (xs : List A) → P d → AllByRecursion P xs → P (last d xs)
all_last P d [] p all = p
all_last P d (x ∷ xs) p all = all_last P x xs all.0 all.1

last_now : (told : DiskTold) → last told.file (moments told) ≡ told.file
last_now told = ap (λ (l : List FileTold). last told.file l) (sym (append-nil (moments told))) ∙ last_more told.file told.file told.past []

-- what a crash leaves now, where it held at the first moment and at each since
pub left_now : (P : List ℕ → Type 0) (old new : DiskTold) → LeavesOnly P old.file → LeavesSince P old new → LeavesOnly P new.file
left_now P old new first run =
    let at_end : new.file ≡ last old.file run.since =
    sym (last_now new) ∙ (ap (λ (l : List FileTold). last new.file l) run.moments_are ∙ last_more new.file old.file old.past run.since) in
    subst (LeavesOnly P) (sym at_end) (all_last (LeavesOnly P) old.file run.since first run.each)

-- ---- fronts

whole_rest : {A : Type 0} (f rest g : List A) → f ++ rest ≡ g → length g ≤ length f → f ≡ g
whole_rest f [] g is le = sym (append-nil f) ∙ is
whole_rest f (x ∷ xs) g is le = absurd (omega (arith, le, ap length is, length-append f (x ∷ xs)))

-- a front of a list that is no shorter is all of it
whole_front : {A : Type 0} (f g : List A) → IsPrefix f g → length g ≤ length f → f ≡ g
whole_front f g p le = whole_rest f p.0 g p.1 le

module _ {C : Type 0} (codec : Codec (Entry C)) (offset : ℕ) where
  codes_more : (xs ys : List (Entry C)) → HaveCodes codec offset xs → HaveCodes codec offset ys → HaveCodes codec offset (xs ++ ys)
  codes_more [] ys p q = q
  codes_more (x ∷ xs) ys p q = (p.0, codes_more xs ys p.1 q)

  payloads_more : (xs ys : List (Entry C)) → payloads codec offset (xs ++ ys) ≡ payloads codec offset xs ++ payloads codec offset ys
  payloads_more xs ys = map-append (λ e. codec.code (shifted offset e)) xs ys

  module _ (before : List (List ℕ)) where
    -- a front of the first entries is one of all, with no more of them
    pub wider : (m n from : ℕ) (h : List (Entry C)) (file : List ℕ) → m ≤ n → StandsForFront codec offset before n (take from h) file → StandsForFront codec offset before m h file
    wider m n from h file le f = longer codec offset before m (take from h) h file (drop from h, take-append-drop from h) (fewer codec offset before m n (take from h) file le f)

    all_codes : (n : ℕ) (h : List (Entry C)) (file : List ℕ) → length h ≤ n → StandsForFront codec offset before n h file → HaveCodes codec offset h
    all_codes n h file le f = subst (HaveCodes codec offset) (whole_front f.front h f.begins (omega (arith, le, f.least))) f.have_codes

    all_stand : (n : ℕ) (h : List (Entry C)) (file : List ℕ) → length h ≤ n → StandsForFront codec offset before n h file → StandsFor (before ++ payloads codec offset h) file
    all_stand n h file le f = subst (λ (l : List (Entry C)). StandsFor (before ++ payloads codec offset l) file) (whole_front f.front h f.begins (omega (arith, le, f.least))) f.stands

    take_least : (from : ℕ) (h : List (Entry C)) → length (take from h) ≤ from
    take_least from h = omega (arith, length-take from h)

    -- what stands before a batch is put
    pub base_stands : (from : ℕ) (h : List (Entry C)) (file : FileTold) → LeavesOnly (StandsForFront codec offset before from (take from h)) file
        → LeavesOnly (StandsFor (before ++ payloads codec offset (take from h))) file
    base_stands from h file only = λ left may. all_stand from (take from h) left (take_least from h) (only left may)

    pub base_codes : (from : ℕ) (h : List (Entry C)) (file : FileTold) → LeavesOnly (StandsForFront codec offset before from (take from h)) file → HaveCodes codec offset (take from h)
    base_codes from h file only = all_codes from (take from h) file.synced (take_least from h) (synced_left (StandsForFront codec offset before from (take from h)) file only)

    all_of : (from : ℕ) (h : List (Entry C)) (file : List ℕ) → HaveCodes codec offset (take from h) → HaveCodes codec offset (drop from h)
        → StandsFor ((before ++ payloads codec offset (take from h)) ++ payloads codec offset (drop from h)) file → StandsForFront codec offset before (length h) h file
    all_of from h file p q s =
        let whole : take from h ++ drop from h ≡ h = take-append-drop from h in
        record {
          front = h;
          begins = ([], append-nil h);
          least = omega arith;
          have_codes = subst (HaveCodes codec offset) whole (codes_more (take from h) (drop from h) p q);
          stands = subst (λ (l : List (List ℕ)). StandsFor l file)
              (append_assoc before (payloads codec offset (take from h)) (payloads codec offset (drop from h))
              ∙ ap (λ (l : List (List ℕ)). before ++ l) (sym (payloads_more (take from h) (drop from h)) ∙ ap (payloads codec offset) whole)) s;
        }

    -- what stands while a batch is put
    front_of : (from : ℕ) (h : List (Entry C)) (file : List ℕ) → from ≤ length h → HaveCodes codec offset (take from h) → HaveCodes codec offset (drop from h)
        → IsBeforeOrAfter (before ++ payloads codec offset (take from h)) (payloads codec offset (drop from h)) file → StandsForFront codec offset before from h file
    front_of from h file le p q (inl s) = record {
      front = take from h;
      begins = (drop from h, take-append-drop from h);
      least = omega (arith, le, length-take from h);
      have_codes = p;
      stands = s;
    }
    front_of from h file le p q (inr s) = fewer codec offset before from (length h) h file le (all_of from h file p q s)

    -- at each moment of a put, where these are the payloads
    pub put_leaves : (from : ℕ) (h : List (Entry C)) (all : List (List ℕ)) (old new : DiskTold) → from ≤ length h
        → LeavesOnly (StandsForFront codec offset before from (take from h)) old.file → HaveCodes codec offset (drop from h) → all ≡ payloads codec offset (drop from h)
        → LeavesSince (IsBeforeOrAfter (before ++ payloads codec offset (take from h)) all) old new
        → LeavesSince (StandsForFront codec offset before from h) old new
    put_leaves from h all old new le only q is run =
        let rest = payloads codec offset (drop from h) in
        let base = before ++ payloads codec offset (take from h) in
        leaves_weaker (IsBeforeOrAfter base rest) (StandsForFront codec offset before from h)
        (λ file s. front_of from h file le (base_codes from h old.file only) q s) old new
        (subst (λ (l : List (List ℕ)). LeavesSince (IsBeforeOrAfter base l) old new) is run)

    -- and after it
    pub put_stands : (from : ℕ) (h : List (Entry C)) (all : List (List ℕ)) (old new : FileTold)
        → LeavesOnly (StandsForFront codec offset before from (take from h)) old → HaveCodes codec offset (drop from h) → all ≡ payloads codec offset (drop from h)
        → LeavesOnly (StandsFor ((before ++ payloads codec offset (take from h)) ++ all)) new
        → LeavesOnly (StandsForFront codec offset before (length h) h) new
    put_stands from h all old new only q is after = λ left may.
        all_of from h left (base_codes from h old only) q
        (subst (λ (l : List (List ℕ)). StandsFor ((before ++ payloads codec offset (take from h)) ++ l) left) is (after left may))

    since_more : (from : ℕ) (h : List (Entry C)) (begun old new : DiskTold) → LeavesSince (StandsForFront codec offset before 0 (take from h)) begun old
        → LeavesSince (StandsForFront codec offset before from h) old new → LeavesSince (StandsForFront codec offset before 0 h) begun new
    since_more from h begun old new run more =
        follows_on (StandsForFront codec offset before 0 h) (StandsForFront codec offset before from h) (λ file f. fewer codec offset before 0 from h file (omega arith) f) begun old new
        (leaves_weaker (StandsForFront codec offset before 0 (take from h)) (StandsForFront codec offset before 0 h) (λ file f. wider 0 0 from h file (omega arith) f) begun old run) more

  -- all was put
  pub stand_kept : (from : ℕ) (h : List (Entry C)) (begun old new : DiskTold) → Stand codec offset begun old from (take from h)
      → ((before : List (List ℕ)) → LeavesOnly (StandsForFront codec offset before from (take from h)) old.file → LeavesSince (StandsForFront codec offset before from h) old new)
      → ((before : List (List ℕ)) → LeavesOnly (StandsForFront codec offset before from (take from h)) old.file → LeavesOnly (StandsForFront codec offset before (length h) h) new.file)
      → Stand codec offset begun new (length h) h
  stand_kept from h begun old new s run after = record {
    before = s.before;
    began_with = s.began_with;
    left = after s.before s.left;
    since = since_more s.before from h begun old new s.since (run s.before s.left);
  }

  -- or nothing, or the disk has failed
  pub stand_front : (from : ℕ) (h : List (Entry C)) (begun old new : DiskTold) → Stand codec offset begun old from (take from h)
      → ((before : List (List ℕ)) → LeavesOnly (StandsForFront codec offset before from (take from h)) old.file → LeavesSince (StandsForFront codec offset before from h) old new)
      → Stand codec offset begun new from h
  stand_front from h begun old new s run = record {
    before = s.before;
    began_with = s.began_with;
    left = left_now (StandsForFront codec offset s.before from h) old new (λ left may. wider s.before from from from h left (omega arith) (s.left left may)) (run s.before s.left);
    since = since_more s.before from h begun old new s.since (run s.before s.left);
  }

  -- nothing was put yet
  pub stand_first : (told : DiskTold) (ps : List (List ℕ)) (end : ℕ) → IsClosedAt ps end told.file.seen → IsSynced told.file → Stand codec offset told told 0 []
  stand_first told ps end closed synced =
      let stands : StandsFor ps told.file.seen = inr closed.is_closed in
      let front : StandsForFront codec offset ps 0 [] told.file.seen = record { front = []; begins = ([], refl); least = omega arith; have_codes = tt; stands = subst (λ (l : List (List ℕ)). StandsFor l told.file.seen) (sym (append-nil ps)) stands } in
      record {
        before = ps;
        began_with = stands;
        left = only_seen (StandsForFront codec offset ps 0 []) told.file synced front;
        since = started (StandsForFront codec offset ps 0 []) told;
      }

-- ---- keepers

module _ {K C : Type 0} (tells : Bool) (told : K → DiskTold) (codec : Codec (Entry C)) where
  -- all was put
  pub keeps : (old new : KeeperTold K) (from : ℕ) (h : List (Entry C)) → Stands tells told codec old from (take from h) → new.begun ≡ old.begun → new.offset ≡ old.offset
      → (IsTrue tells → (before : List (List ℕ)) → LeavesOnly (StandsForFront codec old.offset before from (take from h)) (told (disk_of old.store)).file
      → LeavesSince (StandsForFront codec old.offset before from h) (told (disk_of old.store)) (told (disk_of new.store)))
      → (IsTrue tells → (before : List (List ℕ)) → LeavesOnly (StandsForFront codec old.offset before from (take from h)) (told (disk_of old.store)).file
      → LeavesOnly (StandsForFront codec old.offset before (length h) h) (told (disk_of new.store)).file)
      → Stands tells told codec new (length h) h
  keeps old new from h s b o run after = record {
    stand = λ t.
        subst (λ (x : ℕ). Stand codec x (told new.begun) (told (disk_of new.store)) (length h) h) (sym o)
        (subst (λ (x : K). Stand codec old.offset (told x) (told (disk_of new.store)) (length h) h) (sym b)
        (stand_kept codec old.offset from h (told old.begun) (told (disk_of old.store)) (told (disk_of new.store)) (s.stand t) (run t) (after t)));
  }

  -- or not all
  pub keeps_front : (old new : KeeperTold K) (late : Store K) (from : ℕ) (h : List (Entry C)) → Stands tells told codec old from (take from h) → new.store ≡ late → new.begun ≡ old.begun → new.offset ≡ old.offset
      → (IsTrue tells → (before : List (List ℕ)) → LeavesOnly (StandsForFront codec old.offset before from (take from h)) (told (disk_of old.store)).file
      → LeavesSince (StandsForFront codec old.offset before from h) (told (disk_of old.store)) (told (disk_of late)))
      → Stands tells told codec new from h
  keeps_front old new late from h s l b o run = record {
    stand = λ t.
        subst (λ (x : ℕ). Stand codec x (told new.begun) (told (disk_of new.store)) from h) (sym o)
        (subst (λ (x : K). Stand codec old.offset (told x) (told (disk_of new.store)) from h) (sym b)
        (subst (λ (x : Store K). Stand codec old.offset (told old.begun) (told (disk_of x)) from h) (sym l)
        (stand_front codec old.offset from h (told old.begun) (told (disk_of old.store)) (told (disk_of late)) (s.stand t) (run t))));
  }

  -- what happened in a call
  pub went_on : (old new : KeeperTold K) (late : Store K) (from : ℕ) (h : List (Entry C)) → Stands tells told codec old from (take from h) → new.store ≡ late → new.begun ≡ old.begun → new.offset ≡ old.offset
      → (IsTrue tells → (before : List (List ℕ)) → LeavesOnly (StandsForFront codec old.offset before from (take from h)) (told (disk_of old.store)).file
      → LeavesSince (StandsForFront codec old.offset before from h) (told (disk_of old.store)) (told (disk_of late)))
      → ((ps qs : List (List ℕ)) (file : List ℕ) → StandsFor ps file → StandsFor qs file → ps ≡ qs) → Went tells told codec old new from h
  went_on old new late from h s l b o run one = record {
    begun = b;
    offset = o;
    since = λ t before stood.
        let stand = s.stand t in
        let same : stand.before ≡ before = one stand.before before (told old.begun).file.seen stand.began_with stood in
        subst (λ (x : Store K). LeavesSince (StandsForFront codec old.offset before from h) (told (disk_of old.store)) (told (disk_of x))) (sym l)
        (run t before (subst (λ (ps : List (List ℕ)). LeavesOnly (StandsForFront codec old.offset ps from (take from h)) (told (disk_of old.store)).file) same stand.left));
  }
