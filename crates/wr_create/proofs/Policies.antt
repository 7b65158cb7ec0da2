-- createPolicy keeps what is well formed.
use Rattle.std.specs.Prelude.{◌≡◌, ℕ, List, Ok, None, is_some}
use Rattle.std.proofs.Common.{refl}
use Rattle.std.proofs.lemmas.Bool.{both_ways}
use Rattle.cm_base.specs.declared.number.Moment.{Moment}
use Rattle.cm_base.specs.declared.cause.Cause.TheVariants as causes
use Rattle.cm_base.specs.Judged.{first_cause}
use Rattle.cm_types.specs.declared.definition.BaseType.TheVariants as bases
use Rattle.cm_types.specs.Types.{type_in}
use Rattle.create_parts.specs.declared.writes.CreatePolicy.{CreatePolicy}
use Rattle.cmis_spec.specs.Repository.{Repository, is_a}
use Rattle.cmis_spec.specs.Well.{Apart, ComesBefore, IsWellFormed}
use Rattle.cmis_laws.proofs.Entries.{not_both}
use Rattle.cmis_laws.proofs.Made.{made_keeps}
use Rattle.cmis_laws.proofs.Passed.{then_ok, refuse_ok, find_ok}
use Rattle.wr_rules.specs.Rules.{judge_storage, unknown_type, unread_cause, has_other_policy, policies_in, new_aces}
use Rattle.wr_rules.proofs.Room.{room_of}
use Rattle.wr_rules.specs.Wanted.{wanted_in}
use Rattle.wr_object.specs.CreateDocument.{may_not_make}
use Rattle.wr_create.specs.Making.{judge_addressed, judge_type, is_uncontrollable, judge_request, new_object}
use Rattle.wr_create.specs.CreatePolicy.{refusal_create_policy, after_create_policy}
use Rattle.wr_create.proofs.Made.{IsMaking, base_is, is_made}
use Rattle.wr_create.proofs.Lines.{type_ok, request_ok}

pub passes : (r : Repository) (u : List ℕ) (cost : ℕ) (call : CreatePolicy) → refusal_create_policy r u cost call ≡ Ok tt → IsMaking r u cost bases.Policy call.object call.object.properties
passes r u cost call h =
    let given = call.object.properties in
    let wanted = wanted_in r.types given in
    let s = then_ok (judge_storage r cost) _ h in
    let a = then_ok (judge_addressed r u call.place) _ s.1 in
    let p = then_ok (first_cause (unread_cause r u) call.object.policies) _ a.1 in
    let b = find_ok causes.TypeNotFound (type_in r.types wanted.kind) _ p.1 in
    let t = then_ok (first_cause (unknown_type r.types) wanted.secondary) _ b.2 in
    let c = refuse_ok causes.Denied (may_not_make r u None) _ t.1 in
    let d = refuse_ok causes.WrongKind (has_other_policy r u call.object.policies) _ c.1 in
    let e = refuse_ok causes.NotFileable (is_some call.place) _ d.1 in
    let f = then_ok (judge_type r.types bases.Policy wanted b.0) _ e.1 in
    let g = refuse_ok causes.NotControllable (is_uncontrollable b.0 call.object) (judge_request wanted call.object given) f.1 in
    record {
      room = room_of r cost s.0;
      kind = b.0;
      def = b.1;
      fits = type_ok r.types bases.Policy wanted b.0 f.0;
      properties = request_ok wanted call.object given g.1;
      policies = d.0;
    }

pub keeps_create_policy : (r : Repository) (u : List ℕ) (m : Moment) (cost : ℕ) (call : CreatePolicy) → IsWellFormed r → refusal_create_policy r u cost call ≡ Ok tt
    → Apart ComesBefore (new_aces u call.object.remove call.object.add) → IsWellFormed (after_create_policy r u m cost call)
keeps_create_policy r u m cost call w h ordered =
    let given = call.object.properties in
    let p = passes r u cost call h in
    let x = new_object r u m given in
    let base = base_is r u m cost bases.Policy call.object given w p in
    made_keeps r cost m x (new_aces u call.object.remove call.object.add) (policies_in r u call.object.policies) w
    (is_made r u m cost bases.Policy call.object given w p (not_both r x bases.Policy bases.Document refl base)
    (λ e. absurd (both_ways (is_a r bases.Relationship x) (not_both r x bases.Policy bases.Relationship refl base) e)) ordered)
    (not_both r x bases.Policy bases.Folder refl base)
