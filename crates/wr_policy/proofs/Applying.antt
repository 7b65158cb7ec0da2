-- applyPolicy keeps what is well formed.
use Rattle.std.specs.Prelude.{◌≡◌, ℕ, ◌+◌, ◌<◌, ◌^◌, true, false, not, if◌then◌else◌, List, [], ◌∷◌, find, Some, Ok, unwrap_or, option_map}
use Rattle.std.proofs.Common.{sym, ap, subst, ◌∙◌}
use Rattle.std.proofs.lemmas.List.Elements.{All-nil, All-cons}
use Rattle.cm_base.specs.declared.number.Oid.{Oid}
use Rattle.cm_base.specs.declared.number.Moment.{Moment}
use Rattle.cm_base.specs.declared.object.Object.{Object}
use Rattle.cm_base.specs.declared.log.ChangeKind.TheVariants as changes
use Rattle.cm_base.specs.declared.cause.Cause.TheVariants as causes
use Rattle.cm_types.specs.declared.definition.BaseType.TheVariants as bases
use Rattle.policy_parts.specs.declared.writes.ApplyPolicy.{ApplyPolicy}
use Rattle.cm_see.specs.Addressed.{addressed}
use Rattle.cmis_spec.specs.Repository.{Repository, same, root, object_at, is_a}
use Rattle.cmis_spec.specs.Access.{lacks, read_named, object_named}
use Rattle.cm_base.specs.declared.access.Level.TheVariants as levels
use Rattle.cmis_spec.specs.Changes.{stepped, noted}
use Rattle.cmis_spec.specs.Documents.{with_policies}
use Rattle.cmis_spec.specs.Well.{HasNumbers, IsBaseAt, IsThere, IsWellFormed}
use Rattle.cmis_laws.proofs.Lists.{by_test}
use Rattle.cmis_laws.proofs.Listed.{policies_keep}
use Rattle.cmis_laws.proofs.Passed.{refuse_ok, then_ok, find_ok, not_false}
use Rattle.cmis_laws.proofs.Steps.{HasRoom, step_keeps, note_keeps}
use Rattle.wr_rules.specs.Rules.{judge_storage}
use Rattle.wr_rules.proofs.Found.{addressed_there, read_there, named_there}
use Rattle.wr_rules.proofs.Room.{room_of, fits_of}
use Rattle.cm_state.specs.Looks.{is_applied}
use Rattle.wr_policy.specs.Applied.{number_or_root}
use Rattle.wr_policy.specs.ApplyPolicy.{refusal_apply_policy, applied_to, after_apply_policy_of, after_apply_policy}

-- ---- what a refusal that is none tells

pub record Passes (r : Repository) (u : List ℕ) (cost : ℕ) (call : ApplyPolicy) : Type 0 where
  pub room : HasRoom r cost
  pub x : Object
  pub at : addressed r u call.place ≡ Some x
  pub policy : Object
  pub policy_at : read_named r u call.policy ≡ Some policy
  pub kind : is_a r bases.Policy policy ≡ true

pub passes : (r : Repository) (u : List ℕ) (cost : ℕ) (call : ApplyPolicy) → refusal_apply_policy r u cost call ≡ Ok tt → Passes r u cost call
passes r u cost call h =
    let s = then_ok (judge_storage r cost) _ h in
    let a = find_ok causes.NotFound (addressed r u call.place) _ s.1 in
    let b = find_ok causes.NotFound (read_named r u call.policy) _ a.2 in
    let c = refuse_ok causes.Denied (lacks r u levels.Write a.0) _ b.2 in
    let d = refuse_ok causes.WrongKind (not (is_a r bases.Policy b.0)) _ c.1 in
    record {
      room = room_of r cost s.0;
      x = a.0;
      at = a.1;
      policy = b.0;
      policy_at = b.1;
      kind = not_false (is_a r bases.Policy b.0) d.0;
    }

-- one more step and its cost stay numbers of 64 bits
pub room_for : (r : Repository) (u : List ℕ) (cost : ℕ) (call : ApplyPolicy) → IsWellFormed r → refusal_apply_policy r u cost call ≡ Ok tt → (r.step + 1 < 2 ^ 64) × (r.cost + cost < 2 ^ 64)
room_for r u cost call w h = fits_of r cost w (passes r u cost call h).room

-- ---- all

pub after_is : (r : Repository) (u : List ℕ) (m : Moment) (cost : ℕ) (call : ApplyPolicy) (x : Object) → addressed r u call.place ≡ Some x
    → after_apply_policy r u m cost call ≡ after_apply_policy_of r u m cost call x
after_is r u m cost call x at = ap (λ o. unwrap_or (option_map (after_apply_policy_of r u m cost call) o) r) at

there_already : (r : Repository) (m : Moment) (cost : ℕ) (p n : Oid) → is_applied r p n ≡ true → applied_to r m cost p n ≡ stepped r cost
there_already r m cost p n e = ap (λ b. if b then stepped r cost else noted (stepped (with_policies r n (p ∷ [])) cost) changes.Updated n m []) e

one_more : (r : Repository) (m : Moment) (cost : ℕ) (p n : Oid) → is_applied r p n ≡ false → applied_to r m cost p n ≡ noted (stepped (with_policies r n (p ∷ [])) cost) changes.Updated n m []
one_more r m cost p n e = ap (λ b. if b then stepped r cost else noted (stepped (with_policies r n (p ∷ [])) cost) changes.Updated n m []) e

applied_well : (r : Repository) (m : Moment) (cost : ℕ) (p n : Oid) → IsWellFormed r → HasRoom r cost → IsThere r n → IsBaseAt r bases.Policy p → IsWellFormed (applied_to r m cost p n)
applied_well r m cost p n w room there kind = by_test (is_applied r p n)
    (λ e. subst IsWellFormed (sym (there_already r m cost p n e)) (step_keeps r cost w room))
    (λ e. subst IsWellFormed (sym (one_more r m cost p n e))
    (note_keeps (stepped (with_policies r n (p ∷ [])) cost) changes.Updated n m []
    (step_keeps (with_policies r n (p ∷ [])) cost (policies_keep r n (p ∷ []) w there (All-cons (IsBaseAt r bases.Policy) p [] kind (All-nil (IsBaseAt r bases.Policy))))
    (record { steps = room.steps; bytes = room.bytes }))))

pub keeps_apply : (r : Repository) (u : List ℕ) (m : Moment) (cost : ℕ) (call : ApplyPolicy) → IsWellFormed r → refusal_apply_policy r u cost call ≡ Ok tt → IsWellFormed (after_apply_policy r u m cost call)
keeps_apply r u m cost call w h =
    let p = passes r u cost call h in
    let named : number_or_root (read_named r u call.policy) ≡ p.policy.id = ap (λ o. unwrap_or (option_map (λ (f : Object). f.id) o) root) p.policy_at in
    subst IsWellFormed (sym (after_is r u m cost call p.x p.at ∙ ap (λ n. applied_to r m cost n p.x.id) named))
    (applied_well r m cost p.policy.id p.x.id w p.room (p.x, addressed_there r u call.place p.x w.numbers p.at)
    (p.policy, named_there r call.policy p.policy (read_there r u (object_named r call.policy) p.policy p.policy_at).0, p.kind))

-- ---- the object after it

applied_objects : (r : Repository) (m : Moment) (cost : ℕ) (p n : Oid) → (applied_to r m cost p n).objects ≡ r.objects
applied_objects r m cost p n = by_test (is_applied r p n) (λ e. ap (λ q. q.objects) (there_already r m cost p n e)) (λ e. ap (λ q. q.objects) (one_more r m cost p n e))

-- it is found under its number, as it was
pub apply_found : (r : Repository) (u : List ℕ) (m : Moment) (cost : ℕ) (call : ApplyPolicy) (made : Repository) (x : Object) → HasNumbers r → addressed r u call.place ≡ Some x
    → made ≡ after_apply_policy r u m cost call → object_at made x.id ≡ Some x
apply_found r u m cost call made x w at e =
    ap (λ ys. find (λ y. same y.id x.id) ys) (ap (λ q. q.objects) (e ∙ after_is r u m cost call x at) ∙ applied_objects r m cost (number_or_root (read_named r u call.policy)) x.id)
    ∙ addressed_there r u call.place x w at
