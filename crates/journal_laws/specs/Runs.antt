-- How the file of a journal goes on from one run to the next.
use Rattle.std.specs.Prelude.{◌≡◌, ◌≤◌, ◌+◌, ℕ, List, [], ◌∷◌, length, max, Result, None}
use Rattle.std.specs.declared.option.Option.{Option}
use mathlib.Core.List.{IsPrefix}
use Rattle.disk.specs.Disks.{DiskTold}
use Rattle.disk.specs.Crashes.{LeavesOnly, LeavesSince}
use Rattle.byte_codec.specs.Codecs.{Codec}
use Rattle.byte_codec.specs.Payloads.{Encodes}
use Rattle.desk_model.specs.declared.entry.Entry.{Entry}
use Rattle.desk_model.specs.Histories.{IsLegal, replay}
use Rattle.journal_keeper.specs.declared.lost.Lost.{Lost}
use Rattle.journal_replay.specs.declared.record.Record.{Record}
use Rattle.journal_replay.specs.declared.record.Record.TheVariants.{Written}
use Rattle.journal_replay.specs.Recorded.{Replay}
use Rattle.journal_replay.specs.Replayed.{Reading, Replays}
use Rattle.journal_replay.specs.Shifting.{all_shifted}
use Rattle.journal_replay.specs.Starts.{StandsForReplay}

-- what is put as an entry is read as the record that tells it
abbrev pub EntriesAreRecords : {C P : Type 0} → Codec (Entry C) → Codec (Record C P) → Type 0
EntriesAreRecords {C = C} entries records = (e : Entry C) (bytes : List ℕ) → Encodes entries e bytes → Encodes records (Written e) bytes

-- one more than the greatest session of the entries, or this number where that is no less
abbrev pub sessions_with : {C : Type 0} → ℕ → List (Entry C) → ℕ
sessions_with n [] = n
sessions_with n (e ∷ es) = sessions_with (max n (e.session + 1)) es

-- What is legal from this state under the limits of a run is legal from it without them, and leads to the same but for them.
abbrev pub OnlyLimits : {S C A X : Type 0} → (S → Entry C → Result (S × A) X) → (S → S) → S → Type 0
OnlyLimits {C = C} next under s = (h : List (Entry C)) → IsLegal next (under s) h → IsLegal next s h × (under (replay next s h) ≡ replay next (under s) h)

-- so it is at the state of each replay of a journal
abbrev pub AreOnlyLimits : {S C P A X : Type 0} → Reading S C P A X → (S → S) → Type 0
AreOnlyLimits {S = S} {P = P} reading under = (payloads : List (List ℕ)) (r : Replay S P) → Replays reading payloads r → OnlyLimits reading.steps.next under r.state

module _ {S C P A X : Type 0} (reading : Reading S C P A X) (under : S → S) (offset : ℕ) (first : Replay S P) where
  -- A file behind a run that began at the first replay, under these limits: it stands for a later one, whose state is under these limits the one to which
  -- a front of the run's entries leads, with at least n of them. Their sessions have greater numbers there, by the offset.
  pub record StandsBehind (n : ℕ) (entries : List (Entry C)) (file : List ℕ) : Type 0 where
    pub front : List (Entry C)
    pub begins : IsPrefix front entries
    pub least : n ≤ length front
    pub later : Replay S P
    pub stands : StandsForReplay reading later file
    pub state_is : under later.state ≡ replay reading.steps.next (under first.state) front
    pub entries_are : later.entries ≡ first.entries + length front
    pub sessions_are : later.sessions ≡ sessions_with first.sessions (all_shifted offset front)
    pub people_are : later.people ≡ first.people

  -- What a crash leaves of the file, at each moment since the run began, and at its end: then it has at least the entries that are sure, and all of them where
  -- nothing is unkept.
  pub record LeavesReplay (begun now : DiskTold) (entries : List (Entry C)) (sure : ℕ) (unkept : Option (Option Lost)) : Type 0 where
    pub since : LeavesSince (StandsBehind 0 entries) begun now
    pub left : LeavesOnly (StandsBehind sure entries) now.file
    pub whole : unkept ≡ None → LeavesOnly (StandsBehind (length entries) entries) now.file

-- The state is under these limits the one to which a front of a run's entries leads, with at least those that are sure; and all of them where nothing is unkept.
pub record IsStateBehind {S C A X : Type 0} (next : S → Entry C → Result (S × A) X) (under : S → S) (opening : S) (entries : List (Entry C)) (sure : ℕ) (unkept : Option (Option Lost)) (state : S) : Type 0 where
  pub front : List (Entry C)
  pub begins : IsPrefix front entries
  pub least : sure ≤ length front
  pub whole : unkept ≡ None → front ≡ entries
  pub state_is : state ≡ under (replay next opening front)
