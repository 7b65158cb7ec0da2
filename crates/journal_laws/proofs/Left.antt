-- What a run leaves, and what the next one begins with.
use Rattle.std.proofs.Common.{◌≡◌, ℕ, List, ◌++◌, length, Some, None, refl, sym, ap, subst, ◌∙◌, arith}
use Rattle.std.specs.declared.option.Option.{Option}
use Rattle.disk.specs.Disks.{DiskTold}
use Rattle.disk.specs.Crashes.{MayLeave}
use Rattle.disk.specs.Joining.{leaves_weaker}
use Rattle.byte_codec.specs.Codecs.{Codec}
use Rattle.desk_model.specs.declared.entry.Entry.{Entry}
use Rattle.desk_model.specs.Histories.{IsLegal, replay}
use Rattle.journal_file.specs.Records.{StandsFor}
use Rattle.journal_keeper.specs.declared.lost.Lost.{Lost}
use Rattle.journal_keeper.specs.Standing.{StandsForFront}
use Rattle.journal_replay.specs.declared.record.Root.{Root}
use Rattle.journal_replay.specs.Recorded.{Replay}
use Rattle.journal_replay.specs.Replayed.{Reading, Replays}
use Rattle.journal_replay.specs.Starts.{StandsForReplay}
use Rattle.journal_start.specs.declared.meeting.Meeting.{Meeting}
use Rattle.journal_runs.specs.Begins.{BegunIn}
use Rattle.journal_runs.specs.Leaves.{KeptIn}
use Rattle.journal_laws.specs.Runs.{StandsBehind, LeavesReplay, IsStateBehind}
use Rattle.journal_laws.proofs.Behind.{fewer_behind, whole_front, prefix_length}

abbrev IsHeld : {T : Type 0} → Option T → Type 0
IsHeld None = ⊥
IsHeld (Some t) = Unit {0}

module _ {S C P A X : Type 0} (reading : Reading S C P A X) (judged : P → P → Meeting) where
  module _ (root : Root P) (under : S → S) (old begun now : DiskTold) (state : S) (offset : ℕ) (run : BegunIn reading judged root under old begun state offset) where
    -- what the file stood for as the keeper began replays to that with which the run began
    pub began_replayed : ((ps qs : List (List ℕ)) (file : List ℕ) → StandsFor ps file → StandsFor qs file → ps ≡ qs) → (before : List (List ℕ)) → StandsFor before begun.file.seen → Replays reading before run.replay
    began_replayed one_reading before stood =
        subst (λ (l : List (List ℕ)). Replays reading l run.replay) (one_reading (run.begins.before ++ run.begins.added) before begun.file.seen run.begins.stands stood) run.begins.replays

    pub leaves_replay : (entries : Codec (Entry C)) (h : List (Entry C)) (sure : ℕ) (unkept : Option (Option Lost)) → (kept : KeptIn entries offset begun now h sure unkept)
        → ((n : ℕ) (file : List ℕ) → StandsForFront entries offset kept.before n h file → StandsBehind reading under offset run.replay n h file)
        → LeavesReplay reading under offset run.replay begun now h sure unkept
    leaves_replay entries h sure unkept kept behind = record {
      since = leaves_weaker (StandsForFront entries offset kept.before 0 h) (StandsBehind reading under offset run.replay 0 h) (behind 0) begun now kept.since;
      left = λ file may. fewer_behind reading under offset run.replay sure kept.settled h file kept.enough (behind kept.settled file (kept.left file may));
      whole = λ none file may. fewer_behind reading under offset run.replay (length h) kept.settled h file (omega (kept.whole none, arith)) (behind kept.settled file (kept.left file may));
    }

    -- the same, from the state with which the run began
    pub legal_from : (h : List (Entry C)) → IsLegal reading.steps.next state h → IsLegal reading.steps.next (under run.replay.state) h
    legal_from h legal = subst (λ (s : S). IsLegal reading.steps.next s h) run.state_is legal

    module _ (turn : S → S) (absorbs : (s : S) → turn (under s) ≡ turn s) (met : Meeting) (later : P) (state' : S) (h : List (Entry C)) (sure : ℕ) (file : List ℕ)
        (begins : (r : Replay S P) → StandsForReplay reading r file → judged r.people later ≡ met → state' ≡ turn r.state) (meets : judged run.replay.people later ≡ met) where
      -- the next run's state, where the file stands for some front of the run's entries
      state_behind : (n : ℕ) (b : StandsBehind reading under offset run.replay n h file) → state' ≡ turn (replay reading.steps.next state b.front)
      state_behind n b =
          begins b.later b.stands (subst (λ (p : P). judged p later ≡ met) (sym b.people_are) meets)
          ∙ (sym (absorbs b.later.state) ∙ (ap turn b.state_is ∙ ap (λ (s : S). turn (replay reading.steps.next s b.front)) (sym run.state_is)))

      pub goes_on : (unkept : Option (Option Lost)) → LeavesReplay reading under offset run.replay begun now h sure unkept → MayLeave now.file file → IsStateBehind reading.steps.next turn state h sure unkept state'
      goes_on None left may =
          let b = left.whole refl file may in
          let enough = left.left file may in
          let all : b.front ≡ h = whole_front b.front h b.begins b.least in
          record {
            front = b.front;
            begins = b.begins;
            least = omega (arith, enough.least, prefix_length enough.front h enough.begins, b.least);
            whole = λ none. all;
            state_is = state_behind (length h) b;
          }
      goes_on (Some lost) left may =
          let b = left.left file may in
          record {
            front = b.front;
            begins = b.begins;
            least = b.least;
            whole = λ none. absurd (subst IsHeld none tt);
            state_is = state_behind sure b;
          }
