-- Two repositories in which a caller sees the same: what he finds is the same.
use Rattle.std.specs.Prelude.{◌≡◌, ℕ, true, List, [], ◌∷◌, map, filter, All, Option, Some, option_map}
use Rattle.std.proofs.Common.{refl, sym, ap, subst, ◌∙◌}
use Rattle.std.proofs.lemmas.List.Elements.{All-filter, filter_passes}
use Rattle.cm_base.specs.declared.number.Oid.{Oid}
use Rattle.cm_base.specs.declared.object.Object.{Object}
use Rattle.cmis_spec.specs.Repository.{Repository, object_at, is_filed, entry_of}
use Rattle.cmis_spec.specs.Access.{reads, read_at, read_named, at_path, is_child, stands, children_of}
use Rattle.cmis_spec.specs.Seen.{seen, seen_object}
use Rattle.cmis_spec.specs.Well.{IsWellFormed}
use Rattle.cmis_laws.proofs.Lists.{all_zip, some_eq}
use Rattle.cmis_laws.proofs.Entries.{all_there}
use Rattle.cm_see.proofs.SeenLists.{same_items}
use Rattle.cm_see.proofs.Looks.{seen_at, seen_named, seen_at_path, seen_child}
use Rattle.cm_see.proofs.Objects.{IsHere, and_third, object_of, read_here, named_here, path_here, sees_at, sees_named, sees_at_path, sees_children}

-- both are well formed, and the caller sees the same in both
pub record AreAlike (r other : Repository) (u : List ℕ) : Type 0 where
  pub well : IsWellFormed r
  pub other_well : IsWellFormed other
  pub alike : seen other u ≡ seen r u

-- x is read in both, and the same is seen of it
pub record IsAlike (r other : Repository) (u : List ℕ) (x : Object) : Type 0 where
  pub here : IsHere r u x
  pub there : IsHere other u x
  pub alike : seen_object r u x ≡ seen_object other u x

-- what is seen alike is the same object
same_found : (r other : Repository) (u : List ℕ) (o p : Option Object) → option_map (seen_object r u) o ≡ option_map (seen_object other u) p → o ≡ p
same_found r other u o p e = sym (object_of r u o) ∙ (ap (option_map (λ s. s.object)) e ∙ object_of other u p)

-- what is found in both, with all that is seen of it
pub record IsFound (r other : Repository) (u : List ℕ) (o p : Option Object) : Type 0 where
  pub same : o ≡ p
  pub each : (x : Object) → o ≡ Some x → IsAlike r other u x

found_alike : (r other : Repository) (u : List ℕ) (o p : Option Object) → ((x : Object) → o ≡ Some x → IsHere r u x) → ((x : Object) → p ≡ Some x → IsHere other u x)
    → option_map (seen_object r u) o ≡ option_map (seen_object other u) p → IsFound r other u o p
found_alike r other u o p here there e =
    let at = same_found r other u o p e in
    record {
      same = at;
      each = λ x k.
          let m : p ≡ Some x = sym at ∙ k in
          record {
            here = here x k;
            there = there x m;
            alike = some_eq (seen_object r u x) (seen_object other u x) (sym (ap (option_map (seen_object r u)) k) ∙ (e ∙ ap (option_map (seen_object other u)) m));
          };
    }

pub read_at_alike : (r other : Repository) (u : List ℕ) (n : Oid) → AreAlike r other u → IsFound r other u (read_at r u n) (read_at other u n)
read_at_alike r other u n a = found_alike r other u (read_at r u n) (read_at other u n) (λ x e. (read_here r u n x e).1) (λ x e. (read_here other u n x e).1)
    (sees_at r u n a.well.numbers ∙ (ap (λ s. seen_at s n) (sym a.alike) ∙ sym (sees_at other u n a.other_well.numbers)))

pub read_named_alike : (r other : Repository) (u : List ℕ) (id : List ℕ) → AreAlike r other u → IsFound r other u (read_named r u id) (read_named other u id)
read_named_alike r other u id a = found_alike r other u (read_named r u id) (read_named other u id) (named_here r u id) (named_here other u id)
    (sees_named r u id a.well.numbers ∙ (ap (λ s. seen_named s id) (sym a.alike) ∙ sym (sees_named other u id a.other_well.numbers)))

pub at_path_alike : (r other : Repository) (u : List ℕ) (names : List (List ℕ)) → AreAlike r other u → IsFound r other u (at_path r u names) (at_path other u names)
at_path_alike r other u names a = found_alike r other u (at_path r u names) (at_path other u names) (λ x. path_here r u names x a.well.numbers) (λ x. path_here other u names x a.other_well.numbers)
    (sees_at_path r u names a.well ∙ (ap (λ s. seen_at_path s names) (sym a.alike) ∙ sym (sees_at_path other u names a.other_well)))

-- ---- children

child_is_here : (r : Repository) (u : List ℕ) (f : Oid) → IsWellFormed r → All (IsHere r u) (children_of r u f)
child_is_here r u f w = all_zip (λ y. object_at r y.id ≡ Some y) (λ y. is_child r u f y ≡ true) (IsHere r u) (children_of r u f)
    (λ y there c. (there, and_third (is_filed r f (entry_of y)) (stands r y) (reads r u y) c))
    (All-filter (is_child r u f) (λ y. object_at r y.id ≡ Some y) r.objects (all_there r.objects w.numbers.0))
    (filter_passes (is_child r u f) r.objects)

objects_of : (r : Repository) (u : List ℕ) (xs : List Object) → map (λ s. s.object) (map (seen_object r u) xs) ≡ xs
objects_of r u [] = refl
objects_of r u (x ∷ xs) = ap (λ ys. x ∷ ys) (objects_of r u xs)

pub record AreFound (r other : Repository) (u : List ℕ) (xs ys : List Object) : Type 0 where
  pub same : xs ≡ ys
  pub each : All (IsAlike r other u) xs

pub children_alike : (r other : Repository) (u : List ℕ) (f : Object) → AreAlike r other u → IsAlike r other u f → AreFound r other u (children_of r u f.id) (children_of other u f.id)
children_alike r other u f a h =
    let e : map (seen_object r u) (children_of r u f.id) ≡ map (seen_object other u) (children_of other u f.id) =
    sees_children r u f a.well h.here ∙ (ap (λ s. filter (seen_child f.id) s.objects) (sym a.alike) ∙ sym (sees_children other u f a.other_well h.there)) in
    let at : children_of r u f.id ≡ children_of other u f.id = sym (objects_of r u (children_of r u f.id)) ∙ (ap (map (λ s. s.object)) e ∙ objects_of other u (children_of other u f.id)) in
    let here : All (IsHere r u) (children_of r u f.id) = child_is_here r u f.id a.well in
    let there : All (IsHere other u) (children_of r u f.id) = subst (All (IsHere other u)) (sym at) (child_is_here other u f.id a.other_well) in
    let seen_same : All (λ x. seen_object r u x ≡ seen_object other u x) (children_of r u f.id) = same_items (seen_object r u) (seen_object other u) (children_of r u f.id) (e ∙ ap (map (seen_object other u)) (sym at)) in
    record {
      same = at;
      each = all_zip (λ x. IsHere r u x × IsHere other u x) (λ x. seen_object r u x ≡ seen_object other u x) (IsAlike r other u) (children_of r u f.id)
          (λ x b s. record { here = b.0; there = b.1; alike = s })
          (all_zip (IsHere r u) (IsHere other u) (λ x. IsHere r u x × IsHere other u x) (children_of r u f.id) (λ x b c. (b, c)) here there)
          seen_same;
    }
