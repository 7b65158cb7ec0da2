-- What is read of an object that a caller reads in two repositories in which he sees the same.
use Rattle.std.specs.Prelude.{◌≡◌, ℕ, Bool, true, false, ◌&&◌, if◌then◌else◌, List, [], ◌∷◌, ◌++◌, map, filter, All, Option, Some, None, option_map, option_and_then}
use Rattle.std.specs.List.{flat_map}
use Rattle.std.proofs.Common.{refl, sym, ap, subst, ◌∙◌}
use Rattle.std.proofs.lemmas.List.Elements.{All-head, All-tail, All-filter, All-weaker, filter_passes}
use Rattle.cm_base.specs.declared.number.Oid.{Oid}
use Rattle.cm_base.specs.declared.object.Object.{Object}
use Rattle.cm_base.specs.declared.series.Series.{Series}
use Rattle.cm_base.specs.declared.series.WorkingCopy.{WorkingCopy}
use Rattle.cm_base.specs.declared.value.Slot.{Slot}
use Rattle.cm_types.specs.declared.property.PropDef.{PropDef}
use Rattle.cm_types.specs.Types.{props_of}
use Rattle.call_parts.specs.declared.readings.PropertyFilter.TheVariants as filters
use Rattle.call_parts.specs.declared.replies.Properties.{Properties}
use Rattle.call_parts.specs.declared.replies.Properties.TheVariants as forms
use Rattle.cmis_spec.specs.Repository.{Repository, same, object_at, owner_of, series_of, entry_of, folders_up}
use Rattle.cmis_spec.specs.Access.{reads, read_at, stands, parents_of}
use Rattle.cmis_spec.specs.Seen.{SeenObject, seen_object, seen_series, is_read}
use Rattle.cmis_spec.specs.Well.{IsWellFormed}
use Rattle.cmis_laws.proofs.Lists.{by_test, all_zip, same_eq}
use Rattle.cmis_laws.proofs.Entries.{all_there}
use Rattle.cm_see.specs.Shown.{passes, shown_slot}
use Rattle.cm_see.proofs.SeenLists.{same_items, map_same}
use Rattle.cm_see.proofs.Looks.{seen_stands}
use Rattle.cm_see.proofs.Objects.{IsHere, here_read, sees_stands}
use Rattle.cm_see.proofs.SeenShown.{shown_alike}
use Rattle.cm_see.proofs.Worlds.{AreAlike, IsAlike, AreFound, IsFound, read_at_alike}
use Rattle.state_rows.proofs.Parents.{all_shown, flat_ids}
use Rattle.rd_query.proofs.Above.{IsFolderHere, parents_folders, above_alike}

-- ---- all that is read

read_here : (r : Repository) (u : List ℕ) → IsWellFormed r → All (IsHere r u) (filter (reads r u) r.objects)
read_here r u w = all_zip (λ y. object_at r y.id ≡ Some y) (λ y. reads r u y ≡ true) (IsHere r u) (filter (reads r u) r.objects)
    (λ y there c. (there, c))
    (All-filter (reads r u) (λ y. object_at r y.id ≡ Some y) r.objects (all_there r.objects w.numbers.0))
    (filter_passes (reads r u) r.objects)

objects_of : (r : Repository) (u : List ℕ) (xs : List Object) → map (λ s. s.object) (map (seen_object r u) xs) ≡ xs
objects_of r u [] = refl
objects_of r u (x ∷ xs) = ap (λ ys. x ∷ ys) (objects_of r u xs)

pub read_alike : (r other : Repository) (u : List ℕ) → AreAlike r other u → AreFound r other u (filter (reads r u) r.objects) (filter (reads other u) other.objects)
read_alike r other u a =
    let xs = filter (reads r u) r.objects in
    let ys = filter (reads other u) other.objects in
    let e : map (seen_object r u) xs ≡ map (seen_object other u) ys = ap (λ s. s.objects) (sym a.alike) in
    let at : xs ≡ ys = sym (objects_of r u xs) ∙ (ap (map (λ s. s.object)) e ∙ objects_of other u ys) in
    let here : All (IsHere r u) xs = read_here r u a.well in
    let there : All (IsHere other u) xs = subst (All (IsHere other u)) (sym at) (read_here other u a.other_well) in
    let seen_same : All (λ x. seen_object r u x ≡ seen_object other u x) xs = same_items (seen_object r u) (seen_object other u) xs (e ∙ ap (map (seen_object other u)) (sym at)) in
    record {
      same = at;
      each = all_zip (λ x. IsHere r u x × IsHere other u x) (λ x. seen_object r u x ≡ seen_object other u x) (IsAlike r other u) xs
          (λ x b s. record { here = b.0; there = b.1; alike = s })
          (all_zip (IsHere r u) (IsHere other u) (λ x. IsHere r u x × IsHere other u x) xs (λ x b c. (b, c)) here there)
          seen_same;
    }

-- ---- whether it is a working copy

-- the owner of the working copy that is seen, where it is one
abbrev seen_owner : SeenObject → Option (List ℕ)
seen_owner o = option_and_then (λ s. option_and_then (λ n. if same n o.object.id then s.owner else None) s.copy) o.series

sees_owner : (r : Repository) (u : List ℕ) (x : Object) → IsHere r u x → owner_of r x ≡ seen_owner (seen_object r u x)
sees_owner r u x here = by_series (series_of r x)
  where
    hidden : (n : Oid) (p : Option (List ℕ)) (b : Bool) → same n x.id ≡ false → None ≡ option_and_then (λ m. if same m x.id then p else None) (if b then Some n else None)
    hidden n p true e = rw e refl
    hidden n p false e = refl

    by_copy : (o : Option WorkingCopy) → option_and_then (λ w. if same w.copy x.id then Some w.owner else None) o
        ≡ option_and_then (λ n. if same n x.id then option_map (λ w. w.owner) o else None) (option_and_then (λ w. if is_read r u w.copy then Some w.copy else None) o)
    by_copy None = refl
    by_copy (Some w) = by_test (same w.copy x.id)
        (λ e.
        let own : read_at r u w.copy ≡ Some x = ap (read_at r u) (same_eq w.copy x.id e) ∙ here_read r u x here in
        rw (own, e) refl)
        (λ e. rw e (hidden w.copy (Some w.owner) (is_read r u w.copy) e))

    by_series : (o : Option Series) → option_and_then (λ s. option_and_then (λ w. if same w.copy x.id then Some w.owner else None) s.working) o
        ≡ option_and_then (λ s. option_and_then (λ n. if same n x.id then s.owner else None) s.copy) (option_map (seen_series r u) o)
    by_series None = refl
    by_series (Some s) = by_copy s.working

module _ (r other : Repository) (u : List ℕ) (a : AreAlike r other u) (x : Object) (h : IsAlike r other u x) where
  pub owner_alike : owner_of r x ≡ owner_of other x
  owner_alike = sees_owner r u x h.here ∙ (ap seen_owner h.alike ∙ sym (sees_owner other u x h.there))

  pub stands_alike : stands r x ≡ stands other x
  stands_alike = sees_stands r u x ∙ (ap seen_stands h.alike ∙ sym (sees_stands other u x))

-- ---- its values

abbrev slots_in : Properties → List Slot
slots_in (forms.Succinct slots) = slots
slots_in (forms.Full ps) = []

module _ (r other : Repository) (u : List ℕ) (a : AreAlike r other u) (x : Object) (h : IsAlike r other u x) where
  types_alike : r.types ≡ other.types
  types_alike = ap (λ s. s.types) (sym a.alike)

  slots_alike : (ds : List PropDef) → ds ≡ props_of r.types x.kind x.secondary → All (λ d. shown_slot r u x d ≡ shown_slot other u x d) ds
  slots_alike ds e =
      let shown : map (shown_slot r u x) (filter (passes filters.All) (props_of r.types x.kind x.secondary)) ≡ map (shown_slot other u x) (filter (passes filters.All) (props_of other.types x.kind x.secondary))
      = ap (λ o. slots_in o.properties) (shown_alike r other u a x h filters.All true) in
      let here : ds ≡ filter (passes filters.All) (props_of r.types x.kind x.secondary) = e ∙ sym (all_shown (props_of r.types x.kind x.secondary)) in
      let there : filter (passes filters.All) (props_of other.types x.kind x.secondary) ≡ ds = all_shown (props_of other.types x.kind x.secondary) ∙ (ap (λ ts. props_of ts x.kind x.secondary) (sym types_alike) ∙ sym e) in
      same_items (shown_slot r u x) (shown_slot other u x) ds (ap (map (shown_slot r u x)) here ∙ (shown ∙ ap (map (shown_slot other u x)) there))

  -- of the properties that a test lets pass
  pub values_alike : (q : PropDef → Bool) → map (shown_slot r u x) (filter q (props_of r.types x.kind x.secondary)) ≡ map (shown_slot other u x) (filter q (props_of other.types x.kind x.secondary))
  values_alike q =
      let ds = props_of r.types x.kind x.secondary in
      map_same (shown_slot r u x) (shown_slot other u x) (filter q ds) (All-filter q (λ d. shown_slot r u x d ≡ shown_slot other u x d) ds (slots_alike ds refl))
      ∙ ap (λ ts. map (shown_slot other u x) (filter q (props_of ts x.kind x.secondary))) types_alike

-- ---- its folders, and those above them

flat_same : {A B : Type 0} (f g : A → List B) (xs : List A) → All (λ x. f x ≡ g x) xs → flat_map f xs ≡ flat_map g xs
flat_same f g [] h = refl
flat_same f g (x ∷ xs) h = rw (All-head (λ x. f x ≡ g x) x xs h) (ap (λ ys. g x ++ ys) (flat_same f g xs (All-tail (λ x. f x ≡ g x) x xs h)))

module _ (r other : Repository) (u : List ℕ) (a : AreAlike r other u) (x : Object) (h : IsAlike r other u x) where
  pub folders_alike : map (λ f. f.id) (parents_of r u (entry_of x)) ≡ map (λ f. f.id) (parents_of other u (entry_of x))
  folders_alike = ap (λ o. o.folders) h.alike

  also_there : (f : Object) → IsHere r u f → IsHere other u f
  also_there f here =
      let found : IsFound r other u (read_at r u f.id) (read_at other u f.id) = read_at_alike r other u f.id a in
      (found.each f (here_read r u f here)).there

  pub all_above_alike : flat_map (λ f. folders_up r f.id) (parents_of r u (entry_of x)) ≡ flat_map (λ f. folders_up other f.id) (parents_of other u (entry_of x))
  all_above_alike =
      flat_same (λ f. folders_up r f.id) (λ f. folders_up other f.id) (parents_of r u (entry_of x))
      (All-weaker (IsFolderHere r u) (λ f. folders_up r f.id ≡ folders_up other f.id) (λ f k. above_alike r other u f a k (also_there f k.0)) (parents_of r u (entry_of x)) (parents_folders r u (entry_of x) a.well))
      ∙ (flat_ids (folders_up other) (parents_of r u (entry_of x)) ∙ (ap (flat_map (folders_up other)) folders_alike ∙ sym (flat_ids (folders_up other) (parents_of other u (entry_of x)))))

-- ---- lists

-- what is read and passes is what passes of what is read
pub shifted : (typed row read listed : Object → Bool) → ((x : Object) → row x ≡ (read x && listed x)) → (xs : List Object) → filter (λ x. typed x && row x) xs ≡ filter (λ x. typed x && listed x) (filter read xs)
shifted typed row read listed h [] = refl
shifted typed row read listed h (x ∷ xs) = by_test (typed x)
    (λ a. by_test (read x)
    (λ b. by_test (listed x)
    (λ c. rw (h x, b, a, c) (ap (λ ys. x ∷ ys) (shifted typed row read listed h xs)))
    (λ c. rw (h x, b, a, c) (shifted typed row read listed h xs)))
    (λ b. rw (h x, b, a) (shifted typed row read listed h xs)))
    (λ a. by_test (read x)
    (λ b. rw (b, a) (shifted typed row read listed h xs))
    (λ b. rw (b, a) (shifted typed row read listed h xs)))

pub rows_same : {A R : Type 0} (f g : A → R) (p q : A → Bool) (xs : List A) → All (λ x. (f x ≡ g x) × (p x ≡ q x)) xs → map f (filter p xs) ≡ map g (filter q xs)
rows_same f g p q [] h = refl
rows_same f g p q (x ∷ xs) h =
    let here = All-head (λ x. (f x ≡ g x) × (p x ≡ q x)) x xs h in
    let rest = rows_same f g p q xs (All-tail (λ x. (f x ≡ g x) × (p x ≡ q x)) x xs h) in
    by_test (q x)
    (λ e. rw (here.1, e, here.0) (ap (λ ys. g x ∷ ys) rest))
    (λ e. rw (here.1, e) rest)
