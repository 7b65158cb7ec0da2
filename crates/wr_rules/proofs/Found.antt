-- What is addressed is there, under its number.
use Rattle.std.specs.Prelude.{◌≡◌, ℕ, Bool, true, ◌&&◌, if◌then◌else◌, List, [], ◌∷◌, find, Option, Some, None, option_and_then, bytes_eq}
use Rattle.std.proofs.Common.{sym, ap, subst, ◌∙◌}
use Rattle.cm_base.specs.declared.number.Oid.{Oid}
use Rattle.cm_base.specs.declared.object.Object.{Object}
use Rattle.call_parts.specs.declared.place.Place.{Place}
use Rattle.call_parts.specs.declared.place.Place.TheVariants.{Id, Path}
use Rattle.cm_see.specs.Addressed.{addressed}
use Rattle.cmis_spec.specs.Repository.{Repository, same, root, object_at, entry_of, entry_name}
use Rattle.cmis_spec.specs.Access.{reads, read_at, object_named, oid_named, walk, child_named, is_child}
use Rattle.cmis_spec.specs.Well.{HasNumbers}
use Rattle.cmis_laws.proofs.Lists.{found_holds, found_passes, same_eq}
use Rattle.cmis_laws.proofs.Entries.{all_there}
use Rattle.cmis_laws.proofs.Passed.{and_then_some, if_some}

-- an object that a search finds is the one of its number
pub found_there : (r : Repository) (p : Object → Bool) (x : Object) → HasNumbers r → find p r.objects ≡ Some x → object_at r x.id ≡ Some x
found_there r p x w h = found_holds (λ y. object_at r y.id ≡ Some y) p r.objects x (all_there r.objects w.0) h

-- what is found under a number has that number
pub at_its_number : (r : Repository) (n : Oid) (x : Object) → object_at r n ≡ Some x → object_at r x.id ≡ Some x
at_its_number r n x h = subst (λ m. object_at r m ≡ Some x) (sym (same_eq x.id n (found_passes (λ y. same y.id n) r.objects x h))) h

pub read_there : (r : Repository) (u : List ℕ) (o : Option Object) (x : Object) → option_and_then (λ y. if reads r u y then Some y else None) o ≡ Some x → (o ≡ Some x) × (reads r u x ≡ true)
read_there r u o x h =
    let a = and_then_some (λ y. if reads r u y then Some y else None) o x h in
    let b = if_some (reads r u a.0) a.0 x a.2 in
    (a.1 ∙ ap Some b.1, subst (λ y. reads r u y ≡ true) b.1 b.0)

pub named_there : (r : Repository) (id : List ℕ) (x : Object) → object_named r id ≡ Some x → object_at r x.id ≡ Some x
named_there r id x h = let a = and_then_some (object_at r) (oid_named id) x h in at_its_number r a.0 x a.2

pub walk_there : (names : List (List ℕ)) (r : Repository) (u : List ℕ) (x y : Object) → HasNumbers r → object_at r x.id ≡ Some x → walk names r u x ≡ Some y → object_at r y.id ≡ Some y
walk_there [] r u x y w h e = subst (λ z. object_at r z.id ≡ Some z) (ap (λ o. elim o [ None ↦ x | Some z ↦ z ]) e) h
walk_there (name ∷ names) r u x y w h e =
    let a = and_then_some (walk names r u) (child_named r u x.id name) y e in
    walk_there names r u a.0 y w (found_there r (λ z. is_child r u x.id z && bytes_eq (entry_name r (entry_of z)) name) a.0 w a.1) a.2

pub addressed_there : (r : Repository) (u : List ℕ) (place : Place) (x : Object) → HasNumbers r → addressed r u place ≡ Some x → object_at r x.id ≡ Some x
addressed_there r u (Id id) x w h = named_there r id x (read_there r u (object_named r id) x h).0
addressed_there r u (Path names) x w h =
    let a = and_then_some (walk names r u) (read_at r u root) x h in
    walk_there names r u a.0 x w (at_its_number r root a.0 (read_there r u (object_at r root) a.0 a.1).0) a.2
