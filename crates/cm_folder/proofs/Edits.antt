-- What the three changes make of the list of entries.
use Rattle.std.proofs.Common.{◌≡◌, ℕ, ◌&&◌, Bool, true, false, List, [], ◌∷◌, filter_map, sym, ap, refl, ◌∙◌}
use Rattle.cm_base.specs.declared.number.Oid.{Oid}
use Rattle.cmis_spec.specs.Repository.{same}
use Rattle.cmis_laws.proofs.Lists.{same_eq}
use Rattle.cm_folder.specs.declared.entry.FilingEntry.{FilingEntry}
use Rattle.cm_folder.specs.declared.edit.Edit.TheVariants as edits
use Rattle.cm_folder.specs.Filings.{edit_child, is_entry, in_folder, unfiled, shifted, told, retold}
use Rattle.place_laws.proofs.Placing.{by_test}

pub taken_out : (f c : Oid) (es : List FilingEntry) → filter_map (edit_child (edits.TakeOut f) c) es ≡ unfiled es f c
taken_out f c [] = refl
taken_out f c (e ∷ es) = by_test (same e.child c)
    (λ a. by_test (same e.folder f)
    (λ b. rw (a, b) (taken_out f c es))
    (λ b. rw (a, b) (ap (λ l. e ∷ l) (taken_out f c es))))
    (λ a. by_test (same e.folder f)
    (λ b. rw (a, b) (ap (λ l. e ∷ l) (taken_out f c es)))
    (λ b. rw (a, b) (ap (λ l. e ∷ l) (taken_out f c es))))

pub put_in : (c s t : Oid) (es : List FilingEntry) → filter_map (edit_child (edits.Place s t) c) es ≡ shifted es c s t
put_in c s t [] = refl
put_in c s t (e ∷ es) = by_test (same e.child c)
    (λ a. by_test (same e.folder s)
    (λ b. rw (a, b) (ap (λ l. in_folder t e ∷ l) (put_in c s t es)))
    (λ b. rw (a, b) (ap (λ l. e ∷ l) (put_in c s t es))))
    (λ a. by_test (same e.folder s)
    (λ b. rw (a, b) (ap (λ l. e ∷ l) (put_in c s t es)))
    (λ b. rw (a, b) (ap (λ l. e ∷ l) (put_in c s t es))))

pub with_told : (c : Oid) (is_folder : Bool) (name : List ℕ) (es : List FilingEntry) → filter_map (edit_child (edits.Tell is_folder name) c) es ≡ retold es c is_folder name
with_told c is_folder name [] = refl
with_told c is_folder name (e ∷ es) = by_test (same e.child c)
    (λ a. rw a (ap (λ l. told is_folder name e ∷ l) (with_told c is_folder name es)))
    (λ a. rw a (ap (λ l. e ∷ l) (with_told c is_folder name es)))

-- what is moved onto its own folder stays
pub stays : (c s t : Oid) (es : List FilingEntry) → same s t ≡ true → shifted es c s t ≡ es
stays c s t [] h = refl
stays c s t (e ∷ es) h = by_test (is_entry s c e)
    (λ a. rw a (λ i. here (same_eq s t h) (same_eq e.folder s (left (same e.folder s) (same e.child c) a)) i ∷ stays c s t es h i))
    (λ a. rw a (ap (λ l. e ∷ l) (stays c s t es h)))
  where
    left : (a b : Bool) → a && b ≡ true → a ≡ true
    left true b h = refl
    left false b h = h

    here : s ≡ t → e.folder ≡ s → in_folder t e ≡ e
    here x y = ap (λ (f : Oid). in_folder f e) (sym (y ∙ x))
