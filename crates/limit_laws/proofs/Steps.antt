-- A step that is accepted under some limits is accepted under greater ones, with the same answer.
use Rattle.std.specs.Prelude.{◌≡◌, Ok}
use Rattle.std.proofs.Common.{ap, sym, ◌∙◌}
use Rattle.cm_base.specs.declared.limits.Limits.{Limits}
use Rattle.cm_base.specs.Judged.{Judged, ◌>>◌}
use Rattle.cm_call.specs.declared.reply.Reply.{Reply}
use Rattle.cm_call.specs.declared.write.Write.{Write}
use Rattle.cmis_spec.specs.Repository.{Repository}
use Rattle.desk_model.specs.declared.entry.Entry.{Entry}
use Rattle.cm_repo.specs.Calls.{acknowledgement, after, refusal_of, step_of}
use Rattle.limit_laws.specs.Limited.{under, AreAsGreat}
use Rattle.limit_laws.proofs.Afters.{after_under}
use Rattle.limit_laws.proofs.Refusals.{passes_under}
use Rattle.limit_laws.proofs.Replies.{reply_under}
use Rattle.write_laws.proofs.Passing.{done_is}

-- what is done where nothing refuses
done : {A : Type 0} (j : Judged (Unit {0})) (a : A) → j ≡ Ok tt → (j >> Ok a) ≡ Ok a
done j a h = ap (λ k. k >> Ok a) h

-- a write keeps the limits
pub limits_kept : (r : Repository) (e : Entry Write) (x : Repository × Reply) → step_of r e ≡ Ok x → x.0.limits ≡ r.limits
limits_kept r e x h =
    let d = done_is (refusal_of r e.user e.moment e.call) (after r e.user e.moment e.call, acknowledgement r e.user e.moment e.call) x h in
    sym (ap (λ (y : Repository × Reply). y.0.limits) d.1) ∙ ap (λ (s : Repository). s.limits) (after_under r.limits r e.user e.moment e.call)

pub step_under : (greater : Limits) (r : Repository) (e : Entry Write) (x : Repository × Reply) → AreAsGreat greater r.limits → step_of r e ≡ Ok x → step_of (under greater r) e ≡ Ok (under greater x.0, x.1)
step_under greater r e x wide h =
    let u = e.user in
    let m = e.moment in
    let made : Repository × Reply = (after r u m e.call, acknowledgement r u m e.call) in
    let d = done_is (refusal_of r u m e.call) made x h in
    let there : Repository × Reply = (after (under greater r) u m e.call, acknowledgement (under greater r) u m e.call) in
    let same : there ≡ (under greater made.0, made.1) = λ i. (after_under greater r u m e.call i, reply_under greater r u m e.call i) in
    done (refusal_of (under greater r) u m e.call) there (passes_under greater r u m e.call wide d.0)
    ∙ (ap (λ (y : Repository × Reply). Ok y) same
    ∙ ap (λ (y : Repository × Reply). Ok (under greater y.0, y.1)) d.1)
