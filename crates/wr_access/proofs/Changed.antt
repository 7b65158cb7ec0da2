-- A changed list keeps what is well formed, and the repository with it is the one after the call.
use Rattle.std.specs.Prelude.{◌≡◌, ℕ, List, [], Some, Ok, unwrap_or, option_map}
use Rattle.std.proofs.Common.{sym, ap, subst, ◌∙◌}
use Rattle.cm_base.specs.declared.number.Oid.{Oid}
use Rattle.cm_base.specs.declared.number.Moment.{Moment}
use Rattle.cm_base.specs.declared.object.Object.{Object}
use Rattle.cm_base.specs.declared.access.Ace.{Ace}
use Rattle.cm_base.specs.declared.access.AccessList.{AccessList}
use Rattle.cm_base.specs.declared.log.ChangeKind.TheVariants as changes
use Rattle.access_parts.specs.declared.writes.ApplyAcl.{ApplyAcl}
use Rattle.cm_acl.specs.Acl.{changed_aces}
use Rattle.cm_see.specs.Addressed.{addressed}
use Rattle.cmis_spec.specs.Repository.{Repository, entry_of}
use Rattle.cmis_spec.specs.Access.{aces_at}
use Rattle.cmis_spec.specs.Changes.{stepped, with_aces}
use Rattle.cmis_spec.specs.Well.{Apart, ComesBefore, IsWellFormed}
use Rattle.cmis_laws.proofs.Listed.{aces_keep}
use Rattle.cmis_laws.proofs.Steps.{step_keeps, note_keeps}
use Rattle.wr_rules.specs.Rules.{aces_in}
use Rattle.rd_access.specs.ReadAcl.{acl_reply}
use Rattle.wr_access.specs.ApplyAcl.{refusal_apply_acl, changed_list, relisted, after_apply_acl_of, after_apply_acl, acknowledgement_apply_acl}
use Rattle.wr_access.proofs.Allowed.{has_room, list_sound}
use Rattle.wr_access.proofs.Permits.{changed_permit}

-- the list that the call makes
pub list_is : (r : Repository) (call : ApplyAcl) (x : Object) (n : Oid) (aces : List Ace) → n ≡ entry_of x → aces ≡ changed_aces (aces_at r n) (aces_in call.remove) (aces_in call.add)
    → record { at = n; aces = aces } ≡ changed_list r call x
list_is r call x n aces e f = λ i. record { at = e i; aces = (f ∙ ap (λ k. changed_aces (aces_at r k) (aces_in call.remove) (aces_in call.add)) e) i }

pub after_is : (r : Repository) (u : List ℕ) (m : Moment) (cost : ℕ) (call : ApplyAcl) (x : Object) → addressed r u call.place ≡ Some x
    → after_apply_acl r u m cost call ≡ relisted r (changed_list r call x) x m cost
after_is r u m cost call x at = ap (λ o. unwrap_or (option_map (after_apply_acl_of r m cost call) o) r) at

-- with this list, at this cost
pub relisted_is : (r : Repository) (u : List ℕ) (m : Moment) (cost k : ℕ) (call : ApplyAcl) (x : Object) (list : AccessList) → addressed r u call.place ≡ Some x
    → list ≡ changed_list r call x → k ≡ cost → relisted r list x m k ≡ after_apply_acl r u m cost call
relisted_is r u m cost k call x list at e g = (λ i. relisted r (e i) x m (g i)) ∙ sym (after_is r u m cost call x at)

-- the list in its order, as the call that makes it says
pub relisted_well : (r : Repository) (u : List ℕ) (m : Moment) (cost k : ℕ) (call : ApplyAcl) (x : Object) (list : AccessList) → IsWellFormed r → refusal_apply_acl r u cost call ≡ Ok tt
    → Apart ComesBefore list.aces → list ≡ changed_list r call x → k ≡ cost → IsWellFormed (relisted r list x m k)
relisted_well r u m cost k call x list w h ordered e g =
    let all = changed_permit (aces_at r (entry_of x)) call.remove call.add (list_sound r (entry_of x) w).1 in
    let made = changed_list r call x in
    subst IsWellFormed (λ i. relisted r (sym e i) x m (sym g i))
    (note_keeps (with_aces (stepped r cost) made) changes.Security x.id m []
    (aces_keep (stepped r cost) made (step_keeps r cost w (has_room r u cost call h)) (subst (λ l. Apart ComesBefore l.aces) e ordered, all)))

-- what is answered
pub reply_is : (r : Repository) (u : List ℕ) (m : Moment) (cost : ℕ) (call : ApplyAcl) (x : Object) (made : Repository) → addressed r u call.place ≡ Some x
    → made ≡ after_apply_acl r u m cost call → acl_reply made x ≡ acknowledgement_apply_acl r u m cost call
reply_is r u m cost call x made at e =
    ap (λ s. acl_reply s x) e ∙ ap (λ o. unwrap_or (option_map (acl_reply (after_apply_acl r u m cost call)) o) (record { aces = [] })) (sym at)
