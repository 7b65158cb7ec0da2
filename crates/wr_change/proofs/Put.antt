-- What an update makes: the object in its place, and its series under its name, are the repository with the object changed.
use Rattle.std.specs.Prelude.{◌≡◌, ℕ, Bool, true, false, if◌then◌else◌, List, [], ◌∷◌, map, find, All, Option, Some, None, IfSome, is_some, unwrap_or, option_map, option_and_then}
use Rattle.std.proofs.Common.{refl, sym, ap, subst, ◌∙◌}
use Rattle.std.proofs.lemmas.List.Elements.{All-nil, All-cons}
use Rattle.cm_base.specs.declared.number.Oid.{Oid}
use Rattle.cm_base.specs.declared.number.Moment.{Moment}
use Rattle.cm_base.specs.declared.object.Object.{Object}
use Rattle.cm_base.specs.declared.series.Series.{Series}
use Rattle.cm_base.specs.declared.value.Slot.{Slot}
use Rattle.cm_base.specs.declared.log.ChangeKind.TheVariants as changes
use Rattle.call_parts.specs.declared.changes.UpdateProperties.{UpdateProperties}
use Rattle.cm_see.specs.Addressed.{addressed}
use Rattle.cmis_spec.specs.Repository.{Repository, same, root_folder, object_at, series_at, series_of}
use Rattle.cmis_spec.specs.Changes.{stepped, noted, edited, series_edited}
use Rattle.cmis_spec.specs.Documents.{is_working_copy}
use Rattle.cmis_spec.specs.Well.{HasSeriesNumbers, Belongs, IsWellFormed}
use Rattle.cmis_laws.proofs.Lists.{by_test, find_alike, found_holds, same_refl}
use Rattle.cmis_laws.proofs.Entries.{series_found}
use Rattle.cmis_laws.proofs.Kept.{find_mapped}
use Rattle.cmis_laws.proofs.Passed.{and_then_some}
use Rattle.wr_rules.specs.Documents.{name_after}
use Rattle.wr_version.proofs.Making.{series_edits}
use Rattle.cm_series.specs.Series.{under_name}
use Rattle.wr_change.specs.Update.{secondary_updated, values_updated, name_kept, updated_object, renamed, placed, changed_in, after_update, object_updated}
use Rattle.wr_change.specs.UpdateParts.{series_renamed, with_maybe}

-- ---- the series

named_by : (r : Repository) (x : Object) (name : List ℕ) → HasSeriesNumbers r → (working : Bool) (o : Option Oid) → Belongs r x o
    → with_maybe r (if working then None else option_map (under_name name) (option_and_then (series_at r) o)) ≡ renamed r name working o
named_by r x name numbers true None b = refl
named_by r x name numbers true (Some n) b = refl
named_by r x name numbers false None b = refl
named_by r x name numbers false (Some n) b =
    let s : Series = b.1.0 in
    let at : series_at r n ≡ Some s = b.1.1 in
    let number : s.id ≡ n = series_found r n s at in
    ap (λ q. with_maybe r (option_map (under_name name) q)) at
    ∙ (ap (λ ss. record r { series = ss }) (series_edits r s (under_name name) numbers (ap (series_at r) number ∙ at))
    ∙ ap (λ k. series_edited r k (under_name name)) number)

named_is : (r : Repository) (x : Object) (name : List ℕ) → IsWellFormed r → object_at r x.id ≡ Some x → with_maybe r (series_renamed r x name) ≡ renamed r name (is_working_copy r x) x.series
named_is r x name w there = named_by r x name w.series_numbers (is_working_copy r x) x.series (found_holds (λ z. Belongs r z z.series) (λ z. same z.id x.id) r.objects x w.documents there)

-- it is there under its number
pub series_there : (r : Repository) (x : Object) (name : List ℕ) (o : Option Series) → o ≡ series_renamed r x name → IfSome o (λ s. is_some (series_at r s.id) ≡ true)
series_there r x name o e = subst (λ o. IfSome o (λ s. is_some (series_at r s.id) ≡ true)) (sym e) (by (is_working_copy r x) (series_of r x) refl)
  where
    by : (b : Bool) (q : Option Series) → series_of r x ≡ q → IfSome (if b then None else option_map (under_name name) q) (λ s. is_some (series_at r s.id) ≡ true)
    by true q h = tt
    by false None h = tt
    by false (Some s) h =
        let a = and_then_some (series_at r) x.series s h in
        ap is_some (ap (series_at r) (series_found r a.0 s a.2) ∙ a.2)

-- ---- the object

pub object_is : (r : Repository) (u : List ℕ) (m : Moment) (call : UpdateProperties) (x kept new : Object) (values : List Slot)
    → kept ≡ record x { name = name_kept x.name (name_after r x call.properties); secondary = secondary_updated call x; values = values }
    → new ≡ record kept { modified_by = u; modified_at = m; token = r.step } → values ≡ values_updated r call x → new ≡ updated_object r u m call x
object_is r u m call x kept new values e f v =
    f ∙ (ap (λ (k : Object). record k { modified_by = u; modified_at = m; token = r.step }) e
    ∙ ap (λ (vs : List Slot). record x { name = name_kept x.name (name_after r x call.properties); secondary = secondary_updated call x; values = vs; modified_by = u; modified_at = m; token = r.step }) v)

-- ---- the repository with it

pub put_is : (r : Repository) (call : UpdateProperties) (x new : Object) (series : Option Series) → IsWellFormed r → object_at r x.id ≡ Some x → new.id ≡ x.id
    → series ≡ series_renamed r x (name_after r x call.properties)
    → noted (edited (with_maybe r series) new.id (λ _. new)) changes.Updated new.id new.modified_at [] ≡ placed r call x new
put_is r call x new series w there e f =
    (λ i. noted (edited (with_maybe r (f i)) (e i) (λ _. new)) changes.Updated (e i) new.modified_at [])
    ∙ ap (λ q. noted (edited q x.id (λ _. new)) changes.Updated x.id new.modified_at []) (named_is r x (name_after r x call.properties) w there)

-- an object in place of the one that has its number is found
put_there : (xs : List Object) (y v : Object) → v.id ≡ y.id → find (λ z. same z.id y.id) xs ≡ Some y → find (λ z. same z.id y.id) (map (λ z. if same z.id y.id then v else z) xs) ≡ Some v
put_there xs y v id there =
    find_mapped put (λ z. same z.id y.id) xs
    ∙ (ap (option_map put) (find_alike (λ z. same (put z).id y.id) (λ z. same z.id y.id) xs (every xs) ∙ there) ∙ ap (λ b. Some (if b then v else y)) (same_refl y.id))
  where
    put : Object → Object
    put z = if same z.id y.id then v else z

    put_number : (z : Object) → same (put z).id y.id ≡ same z.id y.id
    put_number z = by_test (same z.id y.id) (λ e. rw e (subst (λ n. same n y.id ≡ true) (sym id) (same_refl y.id))) (λ e. rw e e)

    every : (zs : List Object) → All (λ z. same (put z).id y.id ≡ same z.id y.id) zs
    every [] = All-nil (λ z. same (put z).id y.id ≡ same z.id y.id)
    every (z ∷ zs) = All-cons (λ z. same (put z).id y.id ≡ same z.id y.id) z zs (put_number z) (every zs)

renamed_objects : (r : Repository) (name : List ℕ) (working : Bool) (o : Option Oid) → (renamed r name working o).objects ≡ r.objects
renamed_objects r name true None = refl
renamed_objects r name false None = refl
renamed_objects r name true (Some n) = refl
renamed_objects r name false (Some n) = refl

-- it is found under its number
change_found : (r : Repository) (u : List ℕ) (m : Moment) (call : UpdateProperties) (x : Object) → object_at r x.id ≡ Some x → object_at (changed_in r u m call x) x.id ≡ Some (updated_object r u m call x)
change_found r u m call x there =
    let y : Object = updated_object r u m call x in
    ap (λ xs. find (λ z. same z.id x.id) (map (λ z. if same z.id x.id then y else z) xs)) (renamed_objects r (name_after r x call.properties) (is_working_copy r x) x.series)
    ∙ put_there r.objects x y refl there

-- ---- the call

pub after_is : (r : Repository) (u : List ℕ) (m : Moment) (cost : ℕ) (call : UpdateProperties) (x : Object) → addressed r u call.place ≡ Some x → after_update r u m cost call ≡ changed_in (stepped r cost) u m call x
after_is r u m cost call x at = ap (λ o. unwrap_or (option_map (changed_in (stepped r cost) u m call) o) r) at

pub object_after : (r : Repository) (u : List ℕ) (m : Moment) (cost : ℕ) (call : UpdateProperties) (x : Object) → addressed r u call.place ≡ Some x → object_updated r u m cost call ≡ updated_object (stepped r cost) u m call x
object_after r u m cost call x at = ap (λ o. updated_object (stepped r cost) u m call (unwrap_or o (root_folder u m r.step))) at

-- the changed object is found
pub made_found : (r : Repository) (u : List ℕ) (m : Moment) (cost : ℕ) (call : UpdateProperties) (x : Object) (made : Repository) → object_at r x.id ≡ Some x → addressed r u call.place ≡ Some x
    → made ≡ changed_in (stepped r cost) u m call x → object_at made x.id ≡ Some (object_updated r u m cost call)
made_found r u m cost call x made there at e =
    ap (λ (q : Repository). object_at q x.id) e ∙ (change_found (stepped r cost) u m call x there ∙ ap Some (sym (object_after r u m cost call x at)))
