-- What is found for a caller is found in what he sees.
use Rattle.std.specs.Prelude.{◌≡◌, ℕ, Bool, true, false, ◌&&◌, if◌then◌else◌, List, [], ◌∷◌, map, filter, find, All, Option, Some, None, IfSome, unwrap_or, option_map, option_and_then, bytes_eq}
use Rattle.std.specs.List.{list_any}
use Rattle.std.proofs.Common.{refl, sym, ap, subst, ◌∙◌}
use Rattle.std.proofs.lemmas.Bool.{both_ways}
use Rattle.std.proofs.lemmas.List.Elements.{All-nil, All-cons, All-weaker}
use Rattle.cm_base.specs.declared.number.Oid.{Oid}
use Rattle.cm_base.specs.declared.object.Object.{Object}
use Rattle.cm_base.specs.declared.series.Series.{Series}
use Rattle.cmis_spec.specs.Repository.{Repository, same, root, object_at, series_at, series_of, entry_of, entry_name, is_filed, is_latest}
use Rattle.cmis_spec.specs.Access.{reads, read_at, read_named, oid_named, walk, at_path, child_named, is_child, stands, children_of, parents_of}
use Rattle.cmis_spec.specs.Seen.{seen, seen_object, seen_series}
use Rattle.cmis_spec.specs.Well.{HasNumbers, Belongs, IsWellFormed}
use Rattle.cmis_laws.proofs.Lists.{found_holds, found_passes, found_by_number, none_some, same_eq, some_eq}
use Rattle.cmis_laws.proofs.Entries.{all_there, number_found}
use Rattle.cmis_laws.proofs.Passed.{and_then_some, if_some}
use Rattle.cm_see.proofs.SeenLists.{filter_seen, find_seen, find_read, any_numbered}
use Rattle.cm_see.proofs.Looks.{seen_at, seen_named, seen_name, seen_stands, seen_child, seen_walk, seen_at_path}

-- ---- truth

and_no : (a b : Bool) → a && b && false ≡ false
and_no true true = refl
and_no true false = refl
and_no false b = refl

and_yes : (a b : Bool) → (a && b && true) ≡ (a && b)
and_yes true true = refl
and_yes true false = refl
and_yes false b = refl

and_one : (a : Bool) → a && true ≡ a
and_one true = refl
and_one false = refl

no_and : (a : Bool) → a && false ≡ false
no_and true = refl
no_and false = refl

and_last : (a b c d : Bool) → (a && b && c) && d ≡ true → c ≡ true
and_last true true true d h = refl
and_last true true false d h = absurd (both_ways false refl h)
and_last true false c d h = absurd (both_ways false refl h)
and_last false b c d h = absurd (both_ways false refl h)

pub and_third : (a b c : Bool) → a && b && c ≡ true → c ≡ true
and_third true true c h = h
and_third true false c h = absurd (both_ways false refl h)
and_third false b c h = absurd (both_ways false refl h)

all_of : {P : Object → Type 0} → ((x : Object) → P x) → (xs : List Object) → All P xs
all_of {P} f [] = All-nil P
all_of {P} f (x ∷ xs) = All-cons P x xs (f x) (all_of f xs)

-- ---- objects by their numbers

-- the object is there, and the caller reads it
abbrev pub IsHere : Repository → List ℕ → Object → Type 0
IsHere r u x = (object_at r x.id ≡ Some x) × (reads r u x ≡ true)

pub read_here : (r : Repository) (u : List ℕ) (n : Oid) (x : Object) → read_at r u n ≡ Some x → (x.id ≡ n) × IsHere r u x
read_here r u n x e =
    let a = and_then_some (λ y. if reads r u y then Some y else None) (object_at r n) x e in
    let b = if_some (reads r u a.0) a.0 x a.2 in
    let there : object_at r n ≡ Some x = a.1 ∙ ap Some b.1 in
    let id : x.id ≡ n = number_found r n x there in
    (id, (subst (λ m. object_at r m ≡ Some x) (sym id) there, subst (λ y. reads r u y ≡ true) b.1 b.0))

pub here_read : (r : Repository) (u : List ℕ) (x : Object) → IsHere r u x → read_at r u x.id ≡ Some x
here_read r u x h = rw h.0 (rw h.1 refl)

pub sees_at : (r : Repository) (u : List ℕ) (n : Oid) → HasNumbers r → option_map (seen_object r u) (read_at r u n) ≡ seen_at (seen r u) n
sees_at r u n w = ap (option_map (seen_object r u)) (find_read (reads r u) r.objects n w.0)
    ∙ find_seen (seen_object r u) (reads r u) (λ x. same x.id n && reads r u x) (λ o. same o.object.id n) r.objects
    (λ x e. rw e (no_and (same x.id n))) (all_of {P = λ x. reads r u x ≡ true → (same x.id n && reads r u x) ≡ same x.id n} (λ x e. rw e (and_one (same x.id n))) r.objects)

pub sees_named : (r : Repository) (u : List ℕ) (id : List ℕ) → HasNumbers r → option_map (seen_object r u) (read_named r u id) ≡ seen_named (seen r u) id
sees_named r u id w = by (oid_named id)
  where
    by : (o : Option Oid) → option_map (seen_object r u) (option_and_then (λ x. if reads r u x then Some x else None) (option_and_then (object_at r) o)) ≡ option_and_then (seen_at (seen r u)) o
    by None = refl
    by (Some n) = sees_at r u n w

pub named_here : (r : Repository) (u : List ℕ) (id : List ℕ) (x : Object) → read_named r u id ≡ Some x → IsHere r u x
named_here r u id x e = by (oid_named id) e
  where
    by : (o : Option Oid) → option_and_then (λ x. if reads r u x then Some x else None) (option_and_then (object_at r) o) ≡ Some x → IsHere r u x
    by None e = absurd (none_some x e)
    by (Some n) e = (read_here r u n x e).1

-- ---- names

pub sees_name : (r : Repository) (u : List ℕ) (x : Object) → IsWellFormed r → object_at r x.id ≡ Some x → entry_name r (entry_of x) ≡ seen_name (seen_object r u x)
sees_name r u x w there = by x.series refl (found_holds (λ y. Belongs r y y.series) (λ y. same y.id x.id) r.objects x w.documents there)
  where
    by : (o : Option Oid) → x.series ≡ o → Belongs r x o → entry_name r (unwrap_or x.series x.id) ≡ unwrap_or (option_map (λ t. t.name) (option_map (seen_series r u) (option_and_then (series_at r) x.series))) (unwrap_or x.name [])
    by (Some n) e b = rw (e, b.1.1) refl
    by None e b =
        let none : series_at r x.id ≡ None = elim (series_at r x.id) as (λ o. series_at r x.id ≡ o → o ≡ None) [
          | None ↦ λ h. refl
          | Some s ↦ λ h.
              let id : s.id ≡ x.id = same_eq s.id x.id (found_passes (λ t. same t.id x.id) r.series s h) in
              let first : IfSome (object_at r s.id) (λ z. z.series ≡ Some s.id) = found_holds (λ t. IfSome (object_at r t.id) (λ z. z.series ≡ Some t.id)) (λ t. same t.id x.id) r.series s w.firsts h in
              let own : x.series ≡ Some s.id = subst (λ o. IfSome o (λ z. z.series ≡ Some s.id)) (ap (object_at r) id ∙ there) first in
              absurd (none_some s.id (sym e ∙ own))
        ] refl in
        rw (e, none, there) refl

-- ---- children

pub sees_stands : (r : Repository) (u : List ℕ) (x : Object) → stands r x ≡ seen_stands (seen_object r u x)
sees_stands r u x = by (series_of r x)
  where
    by : (o : Option Series) → unwrap_or (option_map (λ s. is_latest s x.id) o) true ≡ seen_stands (record { object = x; aces = []; contents = []; renditions = []; folders = []; policies = []; series = option_map (seen_series r u) o })
    by None = refl
    by (Some s) = refl

filed_seen : (r : Repository) (u : List ℕ) (f : Object) (n : Oid) → HasNumbers r → IsHere r u f → is_filed r f.id n ≡ list_any (λ g. same g f.id) (map (λ y. y.id) (parents_of r u n))
filed_seen r u f n w h = sym (any_numbered (λ y. is_filed r y.id n && reads r u y) f.id r.objects w.0 ∙ rw h.0 (rw h.1 (and_one (is_filed r f.id n))))

pub sees_child : (r : Repository) (u : List ℕ) (f x : Object) → HasNumbers r → IsHere r u f → reads r u x ≡ true → is_child r u f.id x ≡ seen_child f.id (seen_object r u x)
sees_child r u f x w h e = rw (e, sees_stands r u x, filed_seen r u f (entry_of x) w h) (and_yes (list_any (λ g. same g f.id) (seen_object r u x).folders) (seen_stands (seen_object r u x)))

hidden_child : (r : Repository) (u : List ℕ) (f : Oid) (x : Object) → reads r u x ≡ false → is_child r u f x ≡ false
hidden_child r u f x e = rw e (and_no (is_filed r f (entry_of x)) (stands r x))

pub sees_children : (r : Repository) (u : List ℕ) (f : Object) → IsWellFormed r → IsHere r u f → map (seen_object r u) (children_of r u f.id) ≡ filter (seen_child f.id) (seen r u).objects
sees_children r u f w h = filter_seen (seen_object r u) (reads r u) (is_child r u f.id) (seen_child f.id) r.objects (hidden_child r u f.id)
    (all_of {P = λ x. reads r u x ≡ true → is_child r u f.id x ≡ seen_child f.id (seen_object r u x)} (λ x e. sees_child r u f x w.numbers h e) r.objects)

pub sees_child_named : (r : Repository) (u : List ℕ) (f : Object) (name : List ℕ) → IsWellFormed r → IsHere r u f
    → option_map (seen_object r u) (child_named r u f.id name) ≡ find (λ c. seen_child f.id c && bytes_eq (seen_name c) name) (seen r u).objects
sees_child_named r u f name w h = find_seen (seen_object r u) (reads r u) (λ x. is_child r u f.id x && bytes_eq (entry_name r (entry_of x)) name) (λ c. seen_child f.id c && bytes_eq (seen_name c) name) r.objects
    (λ x e. rw (hidden_child r u f.id x e) refl)
    (All-weaker (λ x. object_at r x.id ≡ Some x) (λ x. reads r u x ≡ true → (is_child r u f.id x && bytes_eq (entry_name r (entry_of x)) name) ≡ (seen_child f.id (seen_object r u x) && bytes_eq (seen_name (seen_object r u x)) name))
    (λ x there e. rw (sees_child r u f x w.numbers h e, sees_name r u x w there) refl) r.objects (all_there r.objects w.numbers.0))

-- ---- what stands at the end of a path

child_here : (r : Repository) (u : List ℕ) (f : Oid) (name : List ℕ) (x : Object) → HasNumbers r → child_named r u f name ≡ Some x → IsHere r u x
child_here r u f name x w e = (
  found_by_number (λ z. z.id) (λ z. is_child r u f z && bytes_eq (entry_name r (entry_of z)) name) r.objects x w.0 e,
  and_last (is_filed r f (entry_of x)) (stands r x) (reads r u x) (bytes_eq (entry_name r (entry_of x)) name) (found_passes (λ z. is_child r u f z && bytes_eq (entry_name r (entry_of z)) name) r.objects x e),
)

sees_walk : (names : List (List ℕ)) (r : Repository) (u : List ℕ) (x : Object) → IsWellFormed r → IsHere r u x → option_map (seen_object r u) (walk names r u x) ≡ seen_walk names (seen r u) (seen_object r u x)
sees_walk [] r u x w h = refl
sees_walk (name ∷ names) r u x w h = rw (← (sees_child_named r u x name w h))
    (elim (child_named r u x.id name) as (λ o. child_named r u x.id name ≡ o → option_map (seen_object r u) (option_and_then (walk names r u) o) ≡ option_and_then (seen_walk names (seen r u)) (option_map (seen_object r u) o)) [
      | None ↦ λ e. refl
      | Some z ↦ λ e. sees_walk names r u z w (child_here r u x.id name z w.numbers e)
    ] refl)

walk_here : (names : List (List ℕ)) (r : Repository) (u : List ℕ) (x y : Object) → HasNumbers r → IsHere r u x → walk names r u x ≡ Some y → IsHere r u y
walk_here [] r u x y w h e = subst (IsHere r u) (some_eq x y e) h
walk_here (name ∷ names) r u x y w h e =
    let a = and_then_some (walk names r u) (child_named r u x.id name) y e in
    walk_here names r u a.0 y w (child_here r u x.id name a.0 w a.1) a.2

pub path_here : (r : Repository) (u : List ℕ) (names : List (List ℕ)) (x : Object) → HasNumbers r → at_path r u names ≡ Some x → IsHere r u x
path_here r u names x w e =
    let a = and_then_some (walk names r u) (read_at r u root) x e in
    walk_here names r u a.0 x w (read_here r u root a.0 a.1).1 a.2

pub sees_at_path : (r : Repository) (u : List ℕ) (names : List (List ℕ)) → IsWellFormed r → option_map (seen_object r u) (at_path r u names) ≡ seen_at_path (seen r u) names
sees_at_path r u names w = rw (← (sees_at r u root w.numbers))
    (elim (read_at r u root) as (λ o. read_at r u root ≡ o → option_map (seen_object r u) (option_and_then (walk names r u) o) ≡ option_and_then (seen_walk names (seen r u)) (option_map (seen_object r u) o)) [
      | None ↦ λ e. refl
      | Some z ↦ λ e. sees_walk names r u z w (read_here r u root z e).1
    ] refl)

-- ---- an object is what is seen of it

pub object_of : (r : Repository) (u : List ℕ) (o : Option Object) → option_map (λ s. s.object) (option_map (seen_object r u) o) ≡ o
object_of r u None = refl
object_of r u (Some x) = refl
