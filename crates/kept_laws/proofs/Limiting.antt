-- The limits of a repository that a file keeps.
use Rattle.std.proofs.Common.{◌≡◌, ℕ, List, [], ◌∷◌, refl, sym, ap, subst, ◌∙◌, arith}
use Rattle.cm_base.specs.declared.limits.Limits.{Limits}
use Rattle.cm_base.specs.declared.cause.Cause.{Cause}
use Rattle.cm_base.specs.declared.shown.Shown.{Shown}
use Rattle.cm_base.specs.Limits.{AreLimits, greatest_limits}
use Rattle.cm_call.specs.declared.write.Write.{Write}
use Rattle.cm_people.specs.Adopted.{adopted}
use Rattle.cm_repo.specs.Restarting.{begun_at}
use Rattle.cm_repo.specs.ServerMachine.{shown_step}
use Rattle.cmis_spec.specs.Repository.{Repository}
use Rattle.desk_model.specs.declared.entry.Entry.{Entry}
use Rattle.desk_model.specs.Histories.{IsLegal, replay}
use Rattle.journal_codec.specs.Recorded.{record_codec}
use Rattle.journal_codec.specs.Roots.{root_codec}
use Rattle.journal_people.specs.Told.{PeopleTold}
use Rattle.journal_replay.specs.declared.record.Record.{Record}
use Rattle.journal_replay.specs.declared.record.Record.TheVariants.{Written, Changed}
use Rattle.journal_replay.specs.Recorded.{Replay, with_record, replayed, AreSound}
use Rattle.journal_replay.specs.Replayed.{Reading, Replays, reading_of, at_root}
use Rattle.journal_laws.specs.Runs.{OnlyLimits}
use Rattle.limit_laws.specs.Limited.{under, AreAsGreat}

-- how the program reads a journal
abbrev pub journal : Reading Repository Write PeopleTold Shown Cause
journal = reading_of root_codec record_codec begun_at shown_step adopted

as_great : (limits : Limits) → AreAsGreat limits limits
as_great limits = (omega arith, omega arith)

-- what is legal under limits is the same under its own
pub own_limits : ((r : Repository) (greater : Limits) (h : List (Entry Write)) → AreAsGreat greater r.limits → IsLegal shown_step r h → replay shown_step (under greater r) h ≡ under greater (replay shown_step r h))
    → (r : Repository) (h : List (Entry Write)) → IsLegal shown_step r h → (replay shown_step r h).limits ≡ r.limits
own_limits same r h legal = ap (λ (x : Repository). x.limits) (same r r.limits h (as_great r.limits) legal)

module _ (stay : (r : Repository) (h : List (Entry Write)) → IsLegal shown_step r h → (replay shown_step r h).limits ≡ r.limits) where
  records_stay : (start : Replay Repository PeopleTold) (rs : List (Record Write PeopleTold)) → AreSound journal.steps start rs → (replayed journal.steps start rs).state.limits ≡ start.state.limits
  records_stay start [] sound = refl
  records_stay start (Written e ∷ rs) sound = records_stay (with_record journal.steps start (Written e)) rs sound.1 ∙ stay start.state (e ∷ []) (sound.0, tt)
  records_stay start (Changed p ∷ rs) sound = records_stay (with_record journal.steps start (Changed p)) rs sound.1

  pub greatest_at : (payloads : List (List ℕ)) (r : Replay Repository PeopleTold) → Replays journal payloads r → r.state.limits ≡ greatest_limits
  greatest_at payloads r so = ap (λ (x : Replay Repository PeopleTold). x.state.limits) so.replay_is ∙ records_stay (at_root begun_at so.root) so.records so.sound

  -- under limits that are no greater than those of a repository
  pub only_refuse : ((r : Repository) (greater : Limits) (h : List (Entry Write)) → AreAsGreat greater r.limits → IsLegal shown_step r h → IsLegal shown_step (under greater r) h)
      → ((r : Repository) (greater : Limits) (h : List (Entry Write)) → AreAsGreat greater r.limits → IsLegal shown_step r h → replay shown_step (under greater r) h ≡ under greater (replay shown_step r h))
      → (limits : Limits) (r : Repository) → r.limits ≡ greatest_limits → AreLimits limits → OnlyLimits shown_step (under limits) r
  only_refuse legal same limits r greatest are h here =
      let great : AreAsGreat r.limits limits = subst (λ (x : Limits). AreAsGreat x limits) (sym greatest) are in
      let behind : Repository = replay shown_step (under limits r) h in
      let limits_are : behind.limits ≡ limits = stay (under limits r) h here in (
        legal (under limits r) r.limits h great here,
        ap (under limits) (same (under limits r) r.limits h great here) ∙ ap (λ (x : Limits). under x behind) (sym limits_are),
      )
