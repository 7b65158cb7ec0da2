-- An applyACL that is not refused has room for its step, and the list that it changes is there, in order.
use Rattle.std.specs.Prelude.{◌≡◌, ℕ, ◌+◌, ◌≤◌, ◌<◌, ◌^◌, Bool, true, List, [], ◌∷◌, find, Some, None, Ok, is_some, unwrap_or, option_map}
use Rattle.std.specs.List.{list_any}
use Rattle.std.proofs.Common.{refl}
use Rattle.std.proofs.lemmas.List.Elements.{All-nil, All-weaker}
use Rattle.cm_base.specs.declared.number.Oid.{Oid}
use Rattle.cm_base.specs.declared.object.Object.{Object}
use Rattle.cm_base.specs.declared.access.AccessList.{AccessList}
use Rattle.access_parts.specs.declared.writes.ApplyAcl.{ApplyAcl}
use Rattle.cm_see.specs.Addressed.{addressed}
use Rattle.cmis_spec.specs.Repository.{Repository, same, entry_of}
use Rattle.cmis_spec.specs.Access.{aces_at, rank}
use Rattle.cmis_spec.specs.Well.{IsAccess, IsAceList, is_listed, IsWellFormed}
use Rattle.cmis_laws.proofs.Lists.{by_test, found_holds}
use Rattle.cmis_laws.proofs.Passed.{then_ok}
use Rattle.cmis_laws.proofs.Steps.{HasRoom}
use Rattle.wr_rules.specs.Rules.{judge_storage}
use Rattle.wr_rules.proofs.Found.{addressed_there}
use Rattle.wr_rules.proofs.Room.{room_of, fits_of}
use Rattle.wr_access.specs.ApplyAcl.{refusal_apply_acl}

pub has_room : (r : Repository) (u : List ℕ) (cost : ℕ) (call : ApplyAcl) → refusal_apply_acl r u cost call ≡ Ok tt → HasRoom r cost
has_room r u cost call h = room_of r cost (then_ok (judge_storage r cost) _ h).0

-- one more step and its cost stay numbers of 64 bits
pub fits : (r : Repository) (u : List ℕ) (cost : ℕ) (call : ApplyAcl) → IsWellFormed r → refusal_apply_acl r u cost call ≡ Ok tt → (r.step + 1 < 2 ^ 64) × (r.cost + cost < 2 ^ 64)
fits r u cost call w h = fits_of r cost w (has_room r u cost call h)

-- ---- the list

found_of_any : {A : Type 0} (p : A → Bool) (xs : List A) → list_any p xs ≡ true → is_some (find p xs) ≡ true
found_of_any p [] h = h
found_of_any p (x ∷ xs) h = by_test (p x) (λ e. rw e refl) (λ e. rw e (found_of_any p xs (rw e at h)))

pub list_there : (r : Repository) (u : List ℕ) (call : ApplyAcl) (x : Object) → IsWellFormed r → addressed r u call.place ≡ Some x → is_some (find (λ l. same l.at (entry_of x)) r.access) ≡ true
list_there r u call x w at = found_of_any (λ l. same l.at (entry_of x)) r.access
    (found_holds (λ y. is_listed r.access (entry_of y) ≡ true) (λ y. same y.id x.id) r.objects x w.listed (addressed_there r u call.place x w.numbers at))

-- a list that is kept is in order, and each of its entries permits something
pub found_sound : (r : Repository) (n : Oid) (l : AccessList) → IsWellFormed r → find (λ k. same k.at n) r.access ≡ Some l → IsAceList l.aces
found_sound r n l w at = found_holds (λ k. IsAceList k.aces) (λ k. same k.at n) r.access l (All-weaker (IsAccess r) (λ k. IsAceList k.aces) (λ k h. h.1) r.access w.access.1) at

pub list_sound : (r : Repository) (n : Oid) → IsWellFormed r → IsAceList (aces_at r n)
list_sound r n w = elim (find (λ l. same l.at n) r.access) as (λ o. find (λ l. same l.at n) r.access ≡ o → IsAceList (unwrap_or (option_map (λ l. l.aces) o) [])) [
  | None ↦ λ e. (tt, All-nil (λ a. 1 ≤ rank a.level))
  | Some l ↦ λ e. found_sound r n l w e
] refl
