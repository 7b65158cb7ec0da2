-- What checkIn makes: the version in its series is the repository after the call, and is found there.
use Rattle.std.specs.Prelude.{◌≡◌, ℕ, ◌+◌, ◌<◌, ◌^◌, if◌then◌else◌, List, [], ◌∷◌, map, find, All, Option, Some, None, Ok, true, unwrap_or, option_map}
use Rattle.std.proofs.Common.{refl, sym, ap, subst, ◌∙◌, arith}
use Rattle.std.proofs.lemmas.List.Elements.{All-nil, All-cons}
use Rattle.cm_base.specs.declared.number.Moment.{Moment}
use Rattle.cm_base.specs.declared.object.Object.{Object}
use Rattle.cm_base.specs.declared.content.Content.{Content}
use Rattle.cm_base.specs.declared.series.Series.{Series}
use Rattle.cm_base.specs.declared.series.Label.{Label}
use Rattle.cm_base.specs.declared.value.Slot.{Slot}
use Rattle.cm_base.specs.declared.log.ChangeKind.TheVariants as changes
use Rattle.call_parts.specs.declared.versions.CheckIn.{CheckIn}
use Rattle.cm_see.specs.Addressed.{addressed}
use Rattle.cmis_spec.specs.Repository.{Repository, same, root_folder, object_at, series_at, series_of, entry_of}
use Rattle.cmis_spec.specs.Changes.{stepped, noted, edited, edited_series}
use Rattle.cmis_spec.specs.Documents.{last_label, next_label, checked_in, with_comment, with_version, with_contents}
use Rattle.cmis_spec.specs.Well.{HasNumbers, HasSeriesNumbers, IsLabel, IsWellFormed}
use Rattle.cmis_laws.proofs.Lists.{by_test, some_eq, find_alike, found_holds, same_refl}
use Rattle.cmis_laws.proofs.Kept.{find_mapped}
use Rattle.cmis_laws.proofs.Begun.{HasLabelsOf}
use Rattle.cmis_laws.proofs.Passed.{and_then_some}
use Rattle.wr_rules.specs.Documents.{name_after, secondary_after}
use Rattle.wr_rules.proofs.Found.{addressed_there}
use Rattle.wr_rules.proofs.Room.{fits_of}
use Rattle.wr_version.specs.CheckIn.{refusal_check_in, values_after, new_version, new_label, given_content, after_check_in_of, after_check_in, version_made}
use Rattle.wr_version.proofs.CheckIn.{passes, last_labelled}
use Rattle.wr_version.proofs.CheckOut.{IsIn, series_is}
use Rattle.wr_version.proofs.Copied.{same_objects}
use Rattle.wr_version.proofs.Making.{series_edits}

-- one more step and its cost stay numbers of 64 bits
pub room_for : (r : Repository) (u : List ℕ) (cost : ℕ) (call : CheckIn) → IsWellFormed r → refusal_check_in r u cost call ≡ Ok tt → (r.step + 1 < 2 ^ 64) × (r.cost + cost < 2 ^ 64)
room_for r u cost call w h = fits_of r cost w (passes r u cost call h).room

-- the working copy that is addressed is in a series
pub in_series : (r : Repository) (u : List ℕ) (cost : ℕ) (call : CheckIn) (x : Object) → IsWellFormed r → refusal_check_in r u cost call ≡ Ok tt → addressed r u call.place ≡ Some x → IsIn r x
in_series r u cost call x w h at =
    let p = passes r u cost call h in
    let same : p.x ≡ x = some_eq p.x x (sym p.at ∙ at) in
    subst (IsIn r) same (series_is r p.x w (addressed_there r u call.place p.x w.numbers p.at) p.document)

-- labels grow no faster than steps
pub labels_fit : (r : Repository) (x : Object) (s : Series) → IsWellFormed r → series_of r x ≡ Some s → r.step + 1 < 2 ^ 64 → ((last_label s).major + 1 < 2 ^ 64) × ((last_label s).minor + 1 < 2 ^ 64)
labels_fit r x s w h room =
    let at = and_then_some (series_at r) x.series s h in
    let l : IsLabel r.step (last_label s) = last_labelled r.step s (found_holds (HasLabelsOf r.step) (λ t. same t.id at.0) r.series s w.labels at.2) in
    (omega (arith, l.0, room), omega (arith, l.1, room))

-- ---- the version

pub version_is : (r : Repository) (u : List ℕ) (m : Moment) (call : CheckIn) (x kept version : Object) (values : List Slot)
    → kept ≡ record x { name = None; secondary = secondary_after x call.properties; values = with_comment values call.comment }
    → version ≡ record kept { modified_by = u; modified_at = m; token = r.step + 1 } → values ≡ values_after r call x → version ≡ new_version r u m call x
version_is r u m call x kept version values e f v =
    f ∙ (ap (λ (k : Object). record k { modified_by = u; modified_at = m; token = r.step + 1 }) e
    ∙ ap (λ (vs : List Slot). record x { name = None; secondary = secondary_after x call.properties; values = with_comment vs call.comment; modified_by = u; modified_at = m; token = r.step + 1 }) v)

-- the moment is that at which it was changed
pub as_changed : (r : Repository) (u : List ℕ) (m : Moment) (call : CheckIn) (x version : Object) → version ≡ new_version r u m call x → version ≡ new_version r u version.modified_at call x
as_changed r u m call x version e = e ∙ ap (λ t. new_version r u t call x) (sym (ap (λ v. v.modified_at) e))

-- ---- the repository after the call

version_edits : (r : Repository) (x : Object) (s : Series) (label : Label) (name : List ℕ) → HasSeriesNumbers r → series_at r s.id ≡ Some s
    → edited_series (edited r x.id (λ _. x)) (checked_in x.id label name s) ≡ with_version r s.id x label name
version_edits r x s label name numbers there = ap (λ ss. record (edited r x.id (λ _. x)) { series = ss }) (series_edits r s (checked_in x.id label name) numbers there)

pub joined_is : (r : Repository) (u : List ℕ) (m : Moment) (cost : ℕ) (call : CheckIn) (x version : Object) (series : Series) (o : Option Content)
    → IsWellFormed r → (i : IsIn r x) → addressed r u call.place ≡ Some x → version ≡ new_version r u m call x
    → series ≡ checked_in x.id (next_label call.major (last_label i.series)) (name_after r x call.properties) i.series → o ≡ given_content r call x
    → noted (stepped (with_contents (edited_series (edited r version.id (λ _. version)) series) o) cost) changes.Updated version.id version.modified_at [] ≡ after_check_in r u m cost call
joined_is r u m cost call x version series o w i at e f g =
    let v : Object = new_version r u m call x in
    let label : Label = next_label call.major (last_label i.series) in
    let name : List ℕ = name_after r x call.properties in
    let is_label : label ≡ new_label r call x = ap (λ q. next_label call.major (unwrap_or (option_map last_label q) (record { major = 0; minor = 0 }))) (sym i.found) in
    (λ j. noted (stepped (with_contents (edited_series (edited r (e j).id (λ _. e j)) (f j)) (g j)) cost) changes.Updated (e j).id (e j).modified_at [])
    ∙ (ap (λ q. noted (stepped (with_contents q (given_content r call x)) cost) changes.Updated x.id m []) (version_edits r v i.series label name w.series_numbers i.there)
    ∙ ((λ j. noted (stepped (with_contents (with_version r (sym i.entry j) v (is_label j) name) (given_content r call x)) cost) changes.Updated x.id m [])
    ∙ sym (ap (λ q. unwrap_or (option_map (after_check_in_of r u m cost call) q) r) at)))

-- an object in place of the one that has its number is found
put_there : (xs : List Object) (y v : Object) → v.id ≡ y.id → find (λ z. same z.id y.id) xs ≡ Some y → find (λ z. same z.id y.id) (map (λ z. if same z.id y.id then v else z) xs) ≡ Some v
put_there xs y v id there =
    find_mapped put (λ z. same z.id y.id) xs
    ∙ (ap (option_map put) (find_alike (λ z. same (put z).id y.id) (λ z. same z.id y.id) xs (every xs) ∙ there) ∙ ap (λ b. Some (if b then v else y)) (same_refl y.id))
  where
    put : Object → Object
    put z = if same z.id y.id then v else z

    put_number : (z : Object) → same (put z).id y.id ≡ same z.id y.id
    put_number z = by_test (same z.id y.id) (λ e. rw e (subst (λ n. same n y.id ≡ true) (sym id) (same_refl y.id))) (λ e. rw e e)

    every : (zs : List Object) → All (λ z. same (put z).id y.id ≡ same z.id y.id) zs
    every [] = All-nil (λ z. same (put z).id y.id ≡ same z.id y.id)
    every (z ∷ zs) = All-cons (λ z. same (put z).id y.id ≡ same z.id y.id) z zs (put_number z) (every zs)

version_there : (r : Repository) (u : List ℕ) (m : Moment) (cost : ℕ) (call : CheckIn) (x : Object) → object_at r x.id ≡ Some x → object_at (after_check_in_of r u m cost call x) x.id ≡ Some (new_version r u m call x)
version_there r u m cost call x there =
    ap (λ ys. find (λ y. same y.id x.id) ys) (same_objects (with_version r (entry_of x) (new_version r u m call x) (new_label r call x) (name_after r x call.properties)) (given_content r call x))
    ∙ put_there r.objects x (new_version r u m call x) refl there

-- the version is found under the number of the working copy
pub version_found : (r : Repository) (u : List ℕ) (m : Moment) (cost : ℕ) (call : CheckIn) (made : Repository) (x : Object) → HasNumbers r → addressed r u call.place ≡ Some x
    → made ≡ after_check_in r u m cost call → object_at made x.id ≡ Some (version_made r u m call)
version_found r u m cost call made x w at e =
    let after : after_check_in r u m cost call ≡ after_check_in_of r u m cost call x = ap (λ o. unwrap_or (option_map (after_check_in_of r u m cost call) o) r) at in
    let version : version_made r u m call ≡ new_version r u m call x = ap (λ o. new_version r u m call (unwrap_or o (root_folder u m r.step))) at in
    ap (λ q. object_at q x.id) (e ∙ after) ∙ (version_there r u m cost call x (addressed_there r u call.place x w at) ∙ ap Some (sym version))
