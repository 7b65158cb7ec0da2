-- What checkOut makes: the working copy in its series is the repository after the call, and is well formed.
use Rattle.std.specs.Prelude.{◌≡◌, ℕ, ◌+◌, ◌<◌, ◌^◌, List, [], Option, Some, None, Ok, is_some, true, find, false, option_map, unwrap_or}
use Rattle.std.proofs.Common.{refl, sym, ap, subst, ◌∙◌}
use Rattle.std.proofs.lemmas.List.Elements.{All-weaker}
use Rattle.cm_base.specs.declared.number.Moment.{Moment}
use Rattle.cm_base.specs.declared.object.Object.{Object}
use Rattle.cm_base.specs.declared.content.Content.{Content}
use Rattle.cm_base.specs.declared.series.Series.{Series}
use Rattle.cm_base.specs.declared.log.ChangeKind.TheVariants as changes
use Rattle.call_parts.specs.declared.versions.CheckOut.{CheckOut}
use Rattle.cm_see.specs.Addressed.{addressed}
use Rattle.cmis_spec.specs.Repository.{Repository, same, root_folder, object_at, series_at, series_of, entry_of, new_number}
use Rattle.cmis_spec.specs.Changes.{stepped, noted}
use Rattle.cmis_spec.specs.Documents.{with_copy, with_contents}
use Rattle.cmis_spec.specs.Well.{HasNumbers, IsWellFormed}
use Rattle.cmis_laws.proofs.Lists.{some_eq, find_last, same_refl}
use Rattle.cmis_laws.proofs.Entries.{is_other}
use Rattle.wr_rules.proofs.Found.{addressed_there}
use Rattle.wr_rules.proofs.Room.{fits_of}
use Rattle.wr_version.specs.CheckOut.{refusal_check_out, new_copy, new_content, after_check_out_of, after_check_out, copy_made}
use Rattle.wr_version.proofs.CheckOut.{passes, keeps_check_out, IsIn, series_is}

-- one more step and its cost stay numbers of 64 bits
pub room_for : (r : Repository) (u : List ℕ) (cost : ℕ) (call : CheckOut) → IsWellFormed r → refusal_check_out r u cost call ≡ Ok tt → (r.step + 1 < 2 ^ 64) × (r.cost + cost < 2 ^ 64)
room_for r u cost call w h = fits_of r cost w (passes r u cost call h).room

-- the document that is addressed is in a series
pub in_series : (r : Repository) (u : List ℕ) (cost : ℕ) (call : CheckOut) (x : Object) → IsWellFormed r → refusal_check_out r u cost call ≡ Ok tt → addressed r u call.place ≡ Some x → IsIn r x
in_series r u cost call x w h at =
    let p = passes r u cost call h in
    let same : p.x ≡ x = some_eq p.x x (sym p.at ∙ at) in
    subst (IsIn r) same (series_is r p.x w (addressed_there r u call.place p.x w.numbers p.at) p.document)

pub series_some : (r : Repository) (x : Object) → IsIn r x → is_some (series_of r x) ≡ true
series_some r x i = ap is_some i.found

pub series_there : (r : Repository) (x : Object) (s : Series) → IsIn r x → series_of r x ≡ Some s → series_at r s.id ≡ Some s
series_there r x s i h = subst (λ t. series_at r t.id ≡ Some t) (some_eq i.series s (sym i.found ∙ h)) i.there

pub copied_is : (r : Repository) (u : List ℕ) (m : Moment) (cost : ℕ) (call : CheckOut) (x copy : Object) (s : Series) (o : Option Content) → IsIn r x → addressed r u call.place ≡ Some x → series_of r x ≡ Some s
    → copy ≡ new_copy r u m x → o ≡ new_content r x
    → noted (stepped (with_contents (with_copy r s.id copy u) o) cost) changes.Created copy.id m [] ≡ after_check_out r u m cost call
copied_is r u m cost call x copy s o i at h e f =
    let n : s.id ≡ entry_of x = sym (ap (λ t. t.id) (some_eq i.series s (sym i.found ∙ h))) ∙ sym i.entry in
    (λ j. noted (stepped (with_contents (with_copy r (n j) (e j) u) (f j)) cost) changes.Created (e j).id m [])
    ∙ sym (ap (λ q. unwrap_or (option_map (after_check_out_of r u m cost) q) r) at)

pub copied_well : (r : Repository) (u : List ℕ) (m : Moment) (cost : ℕ) (call : CheckOut) (x copy : Object) (s : Series) (o : Option Content) → IsWellFormed r → refusal_check_out r u cost call ≡ Ok tt → IsIn r x → addressed r u call.place ≡ Some x → series_of r x ≡ Some s
    → copy ≡ new_copy r u m x → o ≡ new_content r x
    → IsWellFormed (noted (stepped (with_contents (with_copy r s.id copy u) o) cost) changes.Created copy.id m [])
copied_well r u m cost call x copy s o w h i at found e f = subst IsWellFormed (sym (copied_is r u m cost call x copy s o i at found e f)) (keeps_check_out r u m cost call w h)

-- a content changes no object
pub same_objects : (r : Repository) (o : Option Content) → (with_contents r o).objects ≡ r.objects
same_objects r None = refl
same_objects r (Some c) = refl

-- the working copy is found under its number
copy_is_there : (r : Repository) (u : List ℕ) (m : Moment) (cost : ℕ) (x : Object) → HasNumbers r → object_at (after_check_out_of r u m cost x) (new_number r) ≡ Some (new_copy r u m x)
copy_is_there r u m cost x w =
    ap (λ ys. find (λ y. same y.id (new_number r)) ys) (same_objects (with_copy r (entry_of x) (new_copy r u m x) u) (new_content r x))
    ∙ find_last (λ y. same y.id (new_number r)) r.objects (new_copy r u m x)
    (All-weaker (λ y. y.id.0 < r.next) (λ y. same y.id (new_number r) ≡ false) (λ y lt. is_other y.id (new_number r) lt) r.objects w.1)
    (same_refl (new_number r))

pub copy_found : (r : Repository) (u : List ℕ) (m : Moment) (cost : ℕ) (call : CheckOut) (made : Repository) (n : ℕ) → HasNumbers r → refusal_check_out r u cost call ≡ Ok tt
    → made ≡ after_check_out r u m cost call → n ≡ r.next → object_at made (record { 0 = n }) ≡ Some (copy_made r u m call)
copy_found r u m cost call made n w h e f =
    let p = passes r u cost call h in
    let after : after_check_out r u m cost call ≡ after_check_out_of r u m cost p.x = ap (λ o. unwrap_or (option_map (after_check_out_of r u m cost) o) r) p.at in
    let copy : copy_made r u m call ≡ new_copy r u m p.x = ap (λ o. new_copy r u m (unwrap_or o (root_folder u m r.step))) p.at in
    let all = e ∙ after in
    (λ i. object_at (all i) (record { 0 = f i })) ∙ (copy_is_there r u m cost p.x w ∙ ap Some (sym copy))
