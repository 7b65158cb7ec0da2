-- What a run begins with, over a file that stands for a replay.
use Rattle.std.proofs.Common.{◌≡◌, ℕ, List, [], ◌∷◌, length, sym, ap, subst, ◌∙◌, arith, inl, inr, ◌⊎◌}
use Rattle.disk.specs.Disks.{DiskTold}
use Rattle.journal_file.specs.Records.{StandsFor}
use Rattle.journal_replay.specs.declared.record.Root.{Root}
use Rattle.journal_replay.specs.Recorded.{Replay, with_people}
use Rattle.journal_replay.specs.Replayed.{Reading, Replays}
use Rattle.journal_replay.specs.Starts.{StandsForReplay}
use Rattle.journal_start.specs.declared.meeting.Meeting.{Meeting}
use Rattle.journal_start.specs.declared.meeting.Meeting.TheVariants.{Same, Changed, Refused}
use Rattle.journal_start.specs.Starting.{IsFresh, IsKept, IsChanged}
use Rattle.journal_runs.specs.Begins.{BegunIn}
use Rattle.journal_laws.proofs.Single.{one_replay_of}

apart : (m : Meeting) → m ≡ Same → m ≡ Changed → ⊥
apart Same a b = absurd cc
apart Changed a b = absurd cc
apart Refused a b = absurd cc

module _ {S C P A X : Type 0} (reading : Reading S C P A X) (one_reading : (ps qs : List (List ℕ)) (file : List ℕ) → StandsFor ps file → StandsFor qs file → ps ≡ qs)
    (judged : P → P → Meeting) (root : Root P) (old : List ℕ) (r : Replay S P) (stands : StandsForReplay reading r old) where
  -- something stands where there is a replay
  not_none : (before : List (List ℕ)) → StandsFor before old → before ≡ [] → ⊥
  not_none before stood none =
      let is : stands.replays.first ∷ stands.replays.others ≡ [] = sym stands.replays.payloads_are ∙ (one_reading stands.payloads before old stands.stands stood ∙ none) in
      absurd (omega (ap length is, arith))

  -- what the payloads of the file replay to
  is_that : (before : List (List ℕ)) (s : Replay S P) → StandsFor before old → Replays reading before s → s ≡ r
  is_that before s stood so = one_replay_of reading one_reading old s r (record { payloads = before; stands = stood; replays = so }) stands

  same_put : (s : Replay S P) (before added : List (List ℕ)) → StandsFor before old
      → IsFresh reading root before added s ⊎ IsKept reading judged root before added s ⊎ IsChanged reading judged root before added s → judged r.people root.people ≡ Same → s ≡ r
  same_put s before added stood (inl fresh) same = absurd (not_none before stood fresh.none)
  same_put s before added stood (inr (inl kept)) same = is_that before s stood kept.good
  same_put s before added stood (inr (inr changed)) same =
      let was : changed.old ≡ r = is_that before changed.old stood changed.good in
      absurd (apart (judged r.people root.people) same (subst (λ (x : Replay S P). judged x.people root.people ≡ Changed) was changed.people))

  changed_put : (s : Replay S P) (before added : List (List ℕ)) → StandsFor before old
      → IsFresh reading root before added s ⊎ IsKept reading judged root before added s ⊎ IsChanged reading judged root before added s → judged r.people root.people ≡ Changed
      → s ≡ with_people reading.steps.adopt r root.people
  changed_put s before added stood (inl fresh) other = absurd (not_none before stood fresh.none)
  changed_put s before added stood (inr (inl kept)) other =
      let was : s ≡ r = is_that before s stood kept.good in
      absurd (apart (judged r.people root.people) (subst (λ (x : Replay S P). judged x.people root.people ≡ Same) was kept.people) other)
  changed_put s before added stood (inr (inr changed)) other =
      changed.replay_is ∙ ap (λ (x : Replay S P). with_people reading.steps.adopt x root.people) (is_that before changed.old stood changed.good)

  module _ (under : S → S) (told begun : DiskTold) (is_told : told.file.seen ≡ old) (state : S) (offset : ℕ) (run : BegunIn reading judged root under told begun state offset) where
    -- the replay of the run is this one
    replay_where : (s : Replay S P) → run.replay ≡ s → (state ≡ under s.state) × (offset ≡ s.sessions)
    replay_where s is = (run.state_is ∙ ap (λ (x : Replay S P). under x.state) is, run.offset_is ∙ ap (λ (x : Replay S P). x.sessions) is)

    stood_then : StandsFor run.begins.before old
    stood_then = subst (StandsFor run.begins.before) is_told run.begins.stood

    pub begins_same : judged r.people root.people ≡ Same → (state ≡ under r.state) × (offset ≡ r.sessions)
    begins_same same = replay_where r (same_put run.replay run.begins.before run.begins.added stood_then run.begins.puts same)

    pub begins_changed : judged r.people root.people ≡ Changed → (state ≡ under (reading.steps.adopt r.state root.people)) × (offset ≡ r.sessions)
    begins_changed other = replay_where (with_people reading.steps.adopt r root.people) (changed_put run.replay run.begins.before run.begins.added stood_then run.begins.puts other)
