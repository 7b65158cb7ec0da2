-- A run that has begun, and what a crash leaves on the way.
use Rattle.std.proofs.Common.{◌≡◌, inl, inr, ℕ, List, [], ◌∷◌, ◌++◌, Result, Ok, Err, IfOk, refl, sym, subst, ◌∙◌, append-nil}
use Rattle.byte_codec.specs.Payloads.{Encodes}
use Rattle.disk.specs.Disks.{DiskTold}
use Rattle.disk.specs.Crashes.{LeavesSince}
use Rattle.disk.specs.Joining.{started, leaves_weaker, follows_on}
use Rattle.journal_file.specs.Records.{StandsFor, IsAsBefore, IsBeforeOrAfter}
use Rattle.journal_replay.specs.declared.record.Record.TheVariants as records
use Rattle.journal_replay.specs.declared.record.Root.{Root}
use Rattle.journal_replay.specs.Recorded.{Replay, with_people}
use Rattle.journal_replay.specs.Replayed.{Reading, Replays, at_root}
use Rattle.journal_replay.specs.OneMore.{root_replays, one_more}
use Rattle.journal_start.specs.declared.begin.Started.{Started}
use Rattle.journal_start.specs.declared.meeting.Meeting.{Meeting}
use Rattle.journal_start.specs.declared.meeting.Meeting.TheVariants.{Same, Changed}
use Rattle.journal_start.specs.Starting.{BeginsBy, IsLeftByStart}

module _ {S C P A X : Type 0} (reading : Reading S C P A X) (root : Root P) where
  -- what a crash leaves while the file is read, and then while a payload is put
  pub moments_join : (old : List ℕ) (first mid last : DiskTold) → LeavesSince (IsAsBefore old) first mid → LeavesSince (IsLeftByStart reading root old) mid last → LeavesSince (IsLeftByStart reading root old) first last
  moments_join old first mid last a b =
      let Left = IsLeftByStart reading root old in
      follows_on Left Left (λ file left. left) first mid last (leaves_weaker (IsAsBefore old) Left (λ file same. inl same) first mid a) b

  -- where nothing is put
  pub moments_same : (old : List ℕ) (first last : DiskTold) → LeavesSince (IsAsBefore old) first last → LeavesSince (IsLeftByStart reading root old) first last
  moments_same old first last a = leaves_weaker (IsAsBefore old) (IsLeftByStart reading root old) (λ file same. inl same) first last a

  pub no_moment : (old : List ℕ) (now : DiskTold) → LeavesSince (IsLeftByStart reading root old) now now
  no_moment old now = started (IsLeftByStart reading root old) now

  -- while the root is put
  pub fresh_moments : (old code : List ℕ) (mid last : DiskTold) → StandsFor [] old → Encodes reading.root_codec root code
      → LeavesSince (IsBeforeOrAfter [] (code ∷ [])) mid last → LeavesSince (IsLeftByStart reading root old) mid last
  fresh_moments old code mid last stood is a = leaves_weaker (IsBeforeOrAfter [] (code ∷ [])) (IsLeftByStart reading root old)
      (λ file left. inr (record { before = []; stood = stood; code = code; may = inl (refl, is); left = left })) mid last a

  -- while the record of other people is put
  pub changed_moments : (old code : List ℕ) (before : List (List ℕ)) (replay : Replay S P) (mid last : DiskTold) → StandsFor before old → Replays reading before replay
      → Encodes reading.record_codec (records.Changed root.people) code
      → LeavesSince (IsBeforeOrAfter before (code ∷ [])) mid last → LeavesSince (IsLeftByStart reading root old) mid last
  changed_moments old code before replay mid last stood good is a = leaves_weaker (IsBeforeOrAfter before (code ∷ [])) (IsLeftByStart reading root old)
      (λ file left. inr (record { before = before; stood = stood; code = code; may = inr (replay, good, is); left = left })) mid last a

  module _ (judged : P → P → Meeting) where
    fresh_begins : (late : Replay S P) (old new code : List ℕ) → StandsFor [] old → Encodes reading.root_codec root code → late ≡ at_root reading.opening root
        → StandsFor (code ∷ []) new → BeginsBy reading judged root late old new
    fresh_begins late old new code stood is late_is stands = record {
      before = [];
      stood = stood;
      added = code ∷ [];
      puts = inl (record { none = refl; code = code; is_root = is; added_is = refl; replay_is = late_is });
      stands = stands;
      replays = subst (Replays reading (code ∷ [])) (sym late_is) (root_replays reading code root is);
    }

    changed_begins : (replay late : Replay S P) (before : List (List ℕ)) (old new code : List ℕ) → StandsFor before old → Replays reading before replay → judged replay.people root.people ≡ Changed
        → Encodes reading.record_codec (records.Changed root.people) code → late ≡ with_people reading.steps.adopt replay root.people
        → StandsFor (before ++ code ∷ []) new → BeginsBy reading judged root late old new
    changed_begins replay late before old new code stood good people is late_is stands = record {
      before = before;
      stood = stood;
      added = code ∷ [];
      puts = inr (inr (record { old = replay; good = good; people = people; code = code; is_record = is; added_is = refl; replay_is = late_is }));
      stands = stands;
      replays = one_more reading before replay late code (records.Changed root.people) is tt late_is good;
    }

    -- the people stay as they are
    pub same_begins : (replay : Replay S P) (before : List (List ℕ)) (old new : List ℕ) → StandsFor before old → StandsFor before new → Replays reading before replay
        → judged replay.people root.people ≡ Same → BeginsBy reading judged root replay old new
    same_begins replay before old new stood stands good people = record {
      before = before;
      stood = stood;
      added = [];
      puts = inr (inl (record { good = good; people = people; nothing = refl }));
      stands = subst (λ (ps : List (List ℕ)). StandsFor ps new) (sym (append-nil before)) stands;
      replays = subst (λ (ps : List (List ℕ)). Replays reading ps replay) (sym (append-nil before)) good;
    }

    module _ {K E : Type 0} (told : K → DiskTold) where
      -- the root was put
      pub fresh_ok : (result : Result (Started K (Replay S P)) E) (so_far : Replay S P) (old code : List ℕ) → StandsFor [] old → Encodes reading.root_codec root code → so_far ≡ at_root reading.opening root
          → IfOk result (λ s. s.so_far ≡ so_far) → IfOk result (λ s. StandsFor (code ∷ []) (told s.journal.disk).file.seen)
          → IfOk result (λ s. BeginsBy reading judged root s.so_far old (told s.journal.disk).file.seen)
      fresh_ok (Ok s) so_far old code stood is root_is same stands = fresh_begins s.so_far old (told s.journal.disk).file.seen code stood is (same ∙ root_is) stands
      fresh_ok (Err e) so_far old code stood is root_is same stands = tt

      -- the record of other people was put
      pub changed_ok : (result : Result (Started K (Replay S P)) E) (replay so_far : Replay S P) (before : List (List ℕ)) (old code : List ℕ) → StandsFor before old → Replays reading before replay
          → judged replay.people root.people ≡ Changed → Encodes reading.record_codec (records.Changed root.people) code → so_far ≡ with_people reading.steps.adopt replay root.people
          → IfOk result (λ s. s.so_far ≡ so_far) → IfOk result (λ s. StandsFor (before ++ code ∷ []) (told s.journal.disk).file.seen)
          → IfOk result (λ s. BeginsBy reading judged root s.so_far old (told s.journal.disk).file.seen)
      changed_ok (Ok s) replay so_far before old code stood good people is late_is same stands =
          changed_begins replay s.so_far before old (told s.journal.disk).file.seen code stood good people is (same ∙ late_is) stands
      changed_ok (Err e) replay so_far before old code stood good people is late_is same stands = tt
