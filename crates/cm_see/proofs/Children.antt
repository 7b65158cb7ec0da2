-- The children that a caller reads, by their numbers.
use Rattle.std.specs.Prelude.{◌≡◌, ℕ, Bool, true, false, ◌&&◌, List, [], ◌∷◌, map, filter, All, Some}
use Rattle.std.specs.List.{filter_map}
use Rattle.std.proofs.Common.{refl, ap, ◌∙◌}
use Rattle.std.proofs.lemmas.List.Elements.{All-head, All-tail}
use Rattle.cm_base.specs.declared.number.Oid.{Oid}
use Rattle.cm_base.specs.declared.object.Object.{Object}
use Rattle.cmis_spec.specs.Repository.{Repository, object_at, is_filed, entry_of}
use Rattle.cmis_spec.specs.Access.{reads, read_at, stands, is_child, children_of}
use Rattle.cmis_spec.specs.Well.{IsWellFormed}
use Rattle.cmis_laws.proofs.Lists.{by_test}
use Rattle.cmis_laws.proofs.Entries.{all_there}
use Rattle.cm_state.specs.Looks.{numbers_in}

read_among : (r : Repository) (u : List ℕ) (q : Object → Bool) (xs : List Object) → All (λ x. object_at r x.id ≡ Some x) xs
    → filter_map (read_at r u) (map (λ x. x.id) (filter q xs)) ≡ filter (λ x. q x && reads r u x) xs
read_among r u q [] h = refl
read_among r u q (x ∷ xs) h =
    let there : object_at r x.id ≡ Some x = All-head (λ x. object_at r x.id ≡ Some x) x xs h in
    let rest = read_among r u q xs (All-tail (λ x. object_at r x.id ≡ Some x) x xs h) in
    by_test (q x)
    (λ e. by_test (reads r u x)
    (λ d. rw (e, there, d) (ap (λ ys. x ∷ ys) rest))
    (λ d. rw (e, there, d) rest))
    (λ e. rw e rest)

and_assoc : (a b c : Bool) → (a && b) && c ≡ a && b && c
and_assoc true b c = refl
and_assoc false b c = refl

filter_alike : {A : Type 0} (p q : A → Bool) (xs : List A) → ((x : A) → p x ≡ q x) → filter p xs ≡ filter q xs
filter_alike p q [] h = refl
filter_alike p q (x ∷ xs) h = by_test (q x)
    (λ e. rw (h x, e) (ap (λ ys. x ∷ ys) (filter_alike p q xs h)))
    (λ e. rw (h x, e) (filter_alike p q xs h))

-- of the objects that stand in a folder, those that the caller reads
pub children_read : (r : Repository) (u : List ℕ) (f : Oid) → IsWellFormed r → filter_map (read_at r u) (numbers_in r f) ≡ children_of r u f
children_read r u f w =
    read_among r u (λ x. is_filed r f (entry_of x) && stands r x) r.objects (all_there r.objects w.numbers.0)
    ∙ filter_alike (λ x. (is_filed r f (entry_of x) && stands r x) && reads r u x) (is_child r u f) r.objects (λ x. and_assoc (is_filed r f (entry_of x)) (stands r x) (reads r u x))
