-- A list of entries that is legal under some limits is legal under greater ones, and leaves the same but for the limits.
use Rattle.std.specs.Prelude.{◌≡◌, false, List, [], ◌∷◌, Result, Ok, Err, IsOk}
use Rattle.std.proofs.Common.{refl, ap, arith, sym, subst, ◌∙◌}
use Rattle.std.proofs.lemmas.Bool.{both_ways}
use Rattle.cm_base.specs.declared.cause.Cause.{Cause}
use Rattle.cm_base.specs.declared.limits.Limits.{Limits}
use Rattle.cm_base.specs.declared.shown.Shown.{Shown}
use Rattle.cm_base.specs.Judged.{◌>>=◌}
use Rattle.bind_json.specs.Replies.{shown_reply}
use Rattle.cmis_laws.proofs.Passed.{err_ok}
use Rattle.cm_call.specs.declared.reply.Reply.{Reply}
use Rattle.cm_call.specs.declared.write.Write.{Write}
use Rattle.cmis_spec.specs.Repository.{Repository}
use Rattle.desk_model.specs.declared.entry.Entry.{Entry}
use Rattle.desk_model.specs.Histories.{IsLegal, replay, state_after}
use Rattle.cm_repo.specs.Calls.{step_of}
use Rattle.cm_repo.specs.ServerMachine.{shown_step}
use Rattle.limit_laws.specs.Limited.{under, AreAsGreat}
use Rattle.limit_laws.proofs.Steps.{limits_kept, step_under}

ok_is : {A : Type 0} (x y : A) → ◌≡◌ {A = Result A Cause} (Ok x) (Ok y) → x ≡ y
ok_is {A} x y h = ap (λ (o : Result A Cause). elim o [ Ok z ↦ z | Err d ↦ x ]) h

-- a machine whose steps, where they are accepted, keep the limits and are the same under greater ones
abbrev pub KnowsNoLimits : {A : Type 0} → (Repository → Entry Write → Result (Repository × A) Cause) → Type 0
KnowsNoLimits {A} next = (greater : Limits) (r : Repository) (e : Entry Write) (x : Repository × A) → AreAsGreat greater r.limits → next r e ≡ Ok x
    → (x.0.limits ≡ r.limits) × (next (under greater r) e ≡ Ok (under greater x.0, x.1))

-- limits are as great as themselves
pub equally_great : (l : Limits) → AreAsGreat l l
equally_great l = (omega arith, omega arith)

module _ {A : Type 0} (next : Repository → Entry Write → Result (Repository × A) Cause) (knows : KnowsNoLimits next) (greater : Limits) where
  abbrev IsSame : Repository → List (Entry Write) → Type 0
  IsSame r h = IsLegal next (under greater r) h × (replay next (under greater r) h ≡ under greater (replay next r h))

  -- what stands behind an accepted entry
  behind : (r : Repository) (e : Entry Write) (es : List (Entry Write)) (x : Repository × A) → next (under greater r) e ≡ Ok (under greater x.0, x.1) → IsSame x.0 es
      → IsLegal next (under greater r) (e ∷ es) × (replay next (under greater r) (e ∷ es) ≡ under greater (replay next x.0 es))
  behind r e es x h same =
      let there : Repository × A = (under greater x.0, x.1) in (
        subst (λ o. IsOk o × IsLegal next (state_after (under greater r) o) es) (sym h) (refl, same.0),
        ap (λ o. replay next (state_after (under greater r) o) es) h ∙ same.1,
      )

  first : (r : Repository) (e : Entry Write) (es : List (Entry Write)) (o : Result (Repository × A) Cause) → next r e ≡ o → IsOk o → AreAsGreat greater r.limits
      → (AreAsGreat greater (state_after r o).limits → IsSame (state_after r o) es)
      → IsLegal next (under greater r) (e ∷ es) × (replay next (under greater r) (e ∷ es) ≡ under greater (replay next (state_after r o) es))
  first r e es (Err c) h ok wide rest = absurd (both_ways false refl ok)
  first r e es (Ok x) h ok wide rest =
      let k = knows greater r e x wide h in
      behind r e es x k.1 (rest (subst (AreAsGreat greater) (sym k.0) wide))

  pub history_under : (r : Repository) (h : List (Entry Write)) → AreAsGreat greater r.limits → IsLegal next r h → IsSame r h
  history_under r [] wide legal = (tt, refl)
  history_under r (e ∷ es) wide legal = first r e es (next r e) refl legal.0 wide (λ w. history_under (state_after r (next r e)) es w legal.1)

-- ---- the two machines

pub steps_know : KnowsNoLimits step_of
steps_know greater r e x wide h = (limits_kept r e x h, step_under greater r e x wide h)

abbrev told : Repository × Reply → Result (Repository × Shown) Cause
told made = Ok (made.0, shown_reply made.1 made.0.step)

pub shown_know : KnowsNoLimits shown_step
shown_know greater r e x wide h = by_step (step_of r e) refl h
  where
    by_step : (o : Result (Repository × Reply) Cause) → step_of r e ≡ o → (o >>= told) ≡ Ok x → (x.0.limits ≡ r.limits) × (shown_step (under greater r) e ≡ Ok (under greater x.0, x.1))
    by_step (Err c) at h = absurd (err_ok c x h)
    by_step (Ok made) at h =
        let k = steps_know greater r e made wide at in
        let same = ok_is (made.0, shown_reply made.1 made.0.step) x h in
        (sym (ap (λ (y : Repository × Shown). y.0.limits) same) ∙ k.0, ap (λ o. o >>= told) k.1 ∙ ap (λ (y : Repository × Shown). Ok (under greater y.0, y.1)) same)
