-- What a file with a front of a run's entries replays to.
use Rattle.std.proofs.Common.{◌≡◌, ◌≤◌, ◌+◌, ℕ, List, [], ◌∷◌, ◌++◌, length, sym, ap, subst, ◌∙◌, arith, length-append, append-nil}
use Rattle.std.proofs.Math.Nat.{le_trans}
use Rattle.byte_codec.specs.Codecs.{Codec}
use Rattle.desk_model.specs.declared.entry.Entry.{Entry}
use Rattle.desk_model.specs.Histories.{IsLegal, replay}
use Rattle.desk_model.proofs.Replays.{legal-front}
use mathlib.Core.List.{IsPrefix}
use Rattle.journal_keeper.specs.Recorded.{payloads}
use Rattle.journal_keeper.specs.Standing.{StandsForFront}
use Rattle.journal_replay.specs.Recorded.{Replay, replayed}
use Rattle.journal_replay.specs.Replayed.{Reading, Replays}
use Rattle.journal_replay.specs.Shifting.{all_shifted}
use Rattle.journal_laws.specs.Runs.{EntriesAreRecords, OnlyLimits, StandsBehind}
use Rattle.journal_laws.proofs.Written.{written, are_written, sound_written, state_written, entries_written, sessions_written, people_written, length_shifted, replays_on}

pub prefix_length : {T : Type 0} (front h : List T) → IsPrefix front h → length front ≤ length h
prefix_length front h p = let e = ap length p.1 in omega (arith, e, length-append front p.0)

none_left : {T : Type 0} (front rest h : List T) → front ++ rest ≡ h → length h ≤ length front → front ≡ h
none_left front [] h is le = sym (append-nil front) ∙ is
none_left front (x ∷ xs) h is le = let long = ap length is in absurd (omega (arith, le, long, length-append front (x ∷ xs)))

-- what begins a list and is as long is the list
pub whole_front : {T : Type 0} (front h : List T) → IsPrefix front h → length h ≤ length front → front ≡ h
whole_front front h begins le = none_left front begins.0 h begins.1 le

module _ {S C P A X : Type 0} (reading : Reading S C P A X) (entries : Codec (Entry C)) (read : EntriesAreRecords entries reading.record_codec)
    (legal_shifted : (s : S) (offset : ℕ) (h : List (Entry C)) → IsLegal reading.steps.next s h → IsLegal reading.steps.next s (all_shifted offset h))
    (replay_shifted : (s : S) (offset : ℕ) (h : List (Entry C)) → replay reading.steps.next s (all_shifted offset h) ≡ replay reading.steps.next s h)
    (under : S → S) (offset : ℕ) (first : Replay S P) (only : OnlyLimits reading.steps.next under first.state) where
  -- what a front of the run's entries makes of the replay at which the run began
  pub stands_behind : (before : List (List ℕ)) (n : ℕ) (h : List (Entry C)) (file : List ℕ) → Replays reading before first → IsLegal reading.steps.next (under first.state) h
      → StandsForFront entries offset before n h file → StandsBehind reading under offset first n h file
  stands_behind before n h file so legal f =
      let next = reading.steps.next in
      let front = f.front in
      let as_kept = all_shifted offset front in
      let late : Replay S P = replayed reading.steps first (written as_kept) in
      let front_legal : IsLegal next (under first.state) front = legal-front next (under first.state) front f.begins.0 (subst (IsLegal next (under first.state)) (sym f.begins.1) legal) in
      let without = only front front_legal in
      let sound = sound_written reading.steps first as_kept (legal_shifted first.state offset front without.0) in
      record {
        front = front;
        begins = f.begins;
        least = f.least;
        later = late;
        stands = record {
          payloads = before ++ payloads entries offset front;
          stands = f.stands;
          replays = replays_on reading before (payloads entries offset front) first (written as_kept) so (are_written entries reading.record_codec read offset front f.have_codes) sound;
        };
        state_is = ap under (state_written reading.steps first as_kept ∙ replay_shifted first.state offset front) ∙ without.1;
        entries_are = entries_written reading.steps first as_kept ∙ ap (λ (k : ℕ). first.entries + k) (length_shifted offset front);
        sessions_are = sessions_written reading.steps first as_kept;
        people_are = people_written reading.steps first as_kept;
      }

-- a front with so many entries is one with fewer
pub fewer_behind : {S C P A X : Type 0} (reading : Reading S C P A X) (under : S → S) (offset : ℕ) (first : Replay S P) (m n : ℕ) (h : List (Entry C)) (file : List ℕ) → m ≤ n
    → StandsBehind reading under offset first n h file → StandsBehind reading under offset first m h file
fewer_behind reading under offset first m n h file le b = record {
  front = b.front;
  begins = b.begins;
  least = le_trans le b.least;
  later = b.later;
  stands = b.stands;
  state_is = b.state_is;
  entries_are = b.entries_are;
  sessions_are = b.sessions_are;
  people_are = b.people_are;
}
