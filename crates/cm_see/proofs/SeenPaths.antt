-- The path of a folder that a caller reads is made of what he sees.
use Rattle.std.specs.Prelude.{◌≡◌, ℕ, zero, suc, ◌≤◌, Bool, true, false, ◌&&◌, ◌||◌, if◌then◌else◌, List, [], ◌∷◌, ◌++◌, map, filter, find, Option, Some, None, unwrap_or, option_map, codes, count_by}
use Rattle.std.proofs.Common.{refl, sym, ap, subst, ◌∙◌, arith}
use Rattle.std.proofs.lemmas.Bool.{both_ways}
use Rattle.std.proofs.lemmas.List.Elements.{All-weaker}
use Rattle.cm_base.specs.declared.number.Oid.{Oid}
use Rattle.cm_base.specs.declared.object.Object.{Object}
use Rattle.cm_base.specs.declared.access.Level.TheVariants as levels
use Rattle.cm_types.specs.declared.definition.BaseType.TheVariants as bases
use Rattle.cmis_spec.specs.Repository.{Repository, same, root, levels_up, object_at, entry_of, entry_name, is_a, is_filed, parent_in, path_by, path_of}
use Rattle.cmis_spec.specs.Access.{is_at_least, level_by_list, reads, reads_up, read_at, parents_of}
use Rattle.cmis_spec.specs.Seen.{Seen, seen, seen_object}
use Rattle.cmis_spec.specs.Well.{Belongs, IsBaseAt, IsWellFormed}
use Rattle.cmis_laws.proofs.Lists.{find_alike, by_test, found_holds, same_eq}
use Rattle.cmis_laws.proofs.Entries.{all_there, number_found, not_both, entry_folder}
use Rattle.cmis_laws.proofs.Moved.{parent_folder}
use Rattle.cm_see.proofs.SeenLists.{filed_in}
use Rattle.cm_see.proofs.Looks.{seen_at, first_of, seen_parent, seen_name_at}
use Rattle.cm_see.proofs.Objects.{IsHere, here_read, sees_at, sees_name}

-- ---- reading upwards

reads_most : (n m : ℕ) (r : Repository) (u : List ℕ) (f : Oid) → n ≤ m → reads_up n r u f ≡ true → reads_up m r u f ≡ true
reads_most zero m r u f l h = absurd (both_ways false refl h)
reads_most (suc n) zero r u f l h = absurd (omega (arith, l))
reads_most (suc n) (suc m) r u f l h = more (is_at_least levels.Read (level_by_list r u f)) (same f root) (parent_in r.filed f) (λ g. reads_most n m r u g (omega (arith, l))) h
  where
    more : (a b : Bool) (o : Option Oid) → ((g : Oid) → reads_up n r u g ≡ true → reads_up m r u g ≡ true)
        → a && (b || unwrap_or (option_map (reads_up n r u) o) false) ≡ true → a && (b || unwrap_or (option_map (reads_up m r u) o) false) ≡ true
    more true true o up h = refl
    more true false None up h = h
    more true false (Some g) up h = up g h
    more false b o up h = absurd (both_ways false refl h)

-- a folder below the root that is read has a parent, and that is read
above_read : (n : ℕ) (r : Repository) (u : List ℕ) (f : Oid) → reads_up (suc n) r u f ≡ true → same f root ≡ false → (g : Oid) × (parent_in r.filed f ≡ Some g) × (reads_up n r u g ≡ true)
above_read n r u f h e = by (is_at_least levels.Read (level_by_list r u f)) (same f root) (parent_in r.filed f) e h
  where
    by : (a b : Bool) (o : Option Oid) → b ≡ false → a && (b || unwrap_or (option_map (reads_up n r u) o) false) ≡ true → (g : Oid) × (o ≡ Some g) × (reads_up n r u g ≡ true)
    by true false (Some g) e h = (g, refl, h)
    by true false None e h = absurd (both_ways false refl h)
    by true true o e h = absurd (both_ways true e refl)
    by false b o e h = absurd (both_ways false refl h)

-- a folder is read where all folders above it are
folder_reads : (r : Repository) (u : List ℕ) (x : Object) → is_a r bases.Folder x ≡ true → reads r u x ≡ reads_up levels_up r u x.id
folder_reads r u x k = rw (not_both r x bases.Folder bases.Relationship refl k) (rw k refl)

folder_read : (r : Repository) (u : List ℕ) (f : Oid) (k : IsBaseAt r bases.Folder f) → reads_up levels_up r u f ≡ true → (k.0.id ≡ f) × IsHere r u k.0
folder_read r u f k h =
    let id : k.0.id ≡ f = number_found r f k.0 k.1 in
    (id, (subst (λ m. object_at r m ≡ Some k.0) (sym id) k.1, folder_reads r u k.0 k.2 ∙ subst (λ g. reads_up levels_up r u g ≡ true) (sym id) h))

-- ---- the parent

first_passing : (q : Object → Bool) (xs : List Object) → first_of (map (λ y. y.id) (filter q xs)) ≡ option_map (λ y. y.id) (find q xs)
first_passing q [] = refl
first_passing q (x ∷ xs) = by_test (q x) (λ e. rw e refl) (λ e. rw e (first_passing q xs))

-- of the folder g, which is the parent of f and is read, and of nothing else it is true that f is filed in it and it is read
is_parent : (r : Repository) (u : List ℕ) (f : Oid) (g y : Object) → IsHere r u g → object_at r y.id ≡ Some y → is_filed r y.id f ≡ same y.id g.id → is_filed r y.id f && reads r u y ≡ same y.id g.id
is_parent r u f g y h there filed = by_test (same y.id g.id)
    (λ e. let at : y ≡ g = some_same (sym there ∙ (ap (object_at r) (same_eq y.id g.id e) ∙ h.0)) in
    rw (filed, e) (subst (λ z. reads r u z ≡ true) (sym at) h.1))
    (λ e. rw (filed, e) refl)
  where
    some_same : {A : Type 0} {x z : A} → Some x ≡ Some z → x ≡ z
    some_same {A} {x} {z} e = ap (λ o. elim o [ None ↦ x | Some v ↦ v ]) e

sees_parent : (r : Repository) (u : List ℕ) (f g : Object) → IsWellFormed r → is_a r bases.Folder f ≡ true → IsHere r u f → IsHere r u g → parent_in r.filed f.id ≡ Some g.id
    → first_of (map (λ y. y.id) (parents_of r u f.id)) ≡ Some g.id
sees_parent r u f g w k h j e =
    let once : count_by (λ p. same p.child f.id) r.filed ≤ 1 = found_holds (λ x. is_a r bases.Folder x ≡ true → count_by (λ p. same p.child x.id) r.filed ≤ 1) (λ x. same x.id f.id) r.objects f w.one_parent h.0 k in
    first_passing (λ y. is_filed r y.id f.id && reads r u y) r.objects
    ∙ (ap (option_map (λ y. y.id)) (find_alike (λ y. is_filed r y.id f.id && reads r u y) (λ y. same y.id g.id) r.objects
    (All-weaker (λ y. object_at r y.id ≡ Some y) (λ y. is_filed r y.id f.id && reads r u y ≡ same y.id g.id)
    (λ y there. is_parent r u f.id g y j there (filed_in y.id f.id g.id r.filed once e)) r.objects (all_there r.objects w.numbers.0)))
    ∙ ap (option_map (λ y. y.id)) j.0)

-- the parent of a folder that is read: the root has none
pub sees_up : (r : Repository) (u : List ℕ) (x : Object) → IsWellFormed r → is_a r bases.Folder x ≡ true → IsHere r u x → parent_in r.filed x.id ≡ (if same x.id root then None else first_of (seen_object r u x).folders)
sees_up r u x w k h = by_test (same x.id root)
    (λ e. rw e (ap (parent_in r.filed) (same_eq x.id root e) ∙ w.root.1))
    (λ e.
    let a = above levels_up (omega arith) (sym (folder_reads r u x k) ∙ h.1) e in
    let kg : IsBaseAt r bases.Folder a.0 = parent_folder r x.id a.0 w.pairs a.1 in
    let up = folder_read r u a.0 kg a.2 in
    let own : entry_of x ≡ x.id = entry_folder r x x.series (found_holds (λ y. Belongs r y y.series) (λ y. same y.id x.id) r.objects x w.documents h.0) k in
    rw e (sym (ap (λ m. first_of (map (λ y. y.id) (parents_of r u m))) own ∙ (sees_parent r u x kg.0 w k h up.1 (a.1 ∙ ap Some (sym up.0)) ∙ (ap Some up.0 ∙ sym a.1)))))
  where
    above : (m : ℕ) → m ≤ levels_up → reads_up m r u x.id ≡ true → same x.id root ≡ false → (g : Oid) × (parent_in r.filed x.id ≡ Some g) × (reads_up levels_up r u g ≡ true)
    above zero l d e = absurd (both_ways false refl d)
    above (suc n) l d e = let a = above_read n r u x.id d e in (a.0, a.1, reads_most n levels_up r u a.0 (omega (arith, l)) a.2)

-- ---- the path

sees_steps : (n : ℕ) (r : Repository) (u : List ℕ) (f : Oid) → IsWellFormed r → n ≤ levels_up → IsBaseAt r bases.Folder f → reads_up n r u f ≡ true
    → path_by n (parent_in r.filed) (entry_name r) f ≡ path_by n (seen_parent (seen r u)) (seen_name_at (seen r u)) f
sees_steps zero r u f w l k h = refl
sees_steps (suc n) r u f w l k h = by_test (same f root)
    (λ e. rw e refl)
    (λ e.
    let z = k.0 in
    let a = above_read n r u f h e in
    let g = a.0 in
    let kg : IsBaseAt r bases.Folder g = parent_folder r f g w.pairs a.1 in
    let here = folder_read r u f k (reads_most (suc n) levels_up r u f l h) in
    let above = folder_read r u g kg (reads_most n levels_up r u g (omega (arith, l)) a.2) in
    let at : seen_at (seen r u) f ≡ Some (seen_object r u z) = sym (sees_at r u f w.numbers) ∙ ap (option_map (seen_object r u)) (subst (λ m. read_at r u m ≡ Some z) here.0 (here_read r u z here.1)) in
    let own : entry_of z ≡ f = entry_folder r z z.series (found_holds (λ y. Belongs r y y.series) (λ y. same y.id f) r.objects z w.documents k.1) k.2 ∙ here.0 in
    let name : seen_name_at (seen r u) f ≡ entry_name r f = rw at (sym (sees_name r u z w here.1.0) ∙ ap (entry_name r) own) in
    let up : parent_in r.filed z.id ≡ Some kg.0.id = ap (parent_in r.filed) here.0 ∙ (a.1 ∙ ap Some (sym above.0)) in
    let parent : seen_parent (seen r u) f ≡ Some g = rw at (ap (λ m. first_of (map (λ y. y.id) (parents_of r u m))) (own ∙ sym here.0) ∙ (sees_parent r u z kg.0 w k.2 here.1 above.1 up ∙ ap Some above.0)) in
    rw (e, a.1, parent, name) (ap (λ p. p ++ codes "/" ++ entry_name r f) (sees_steps n r u g w (omega (arith, l)) kg a.2)))

-- the path that is made of what is seen
abbrev pub seen_path : Seen → Oid → List ℕ
seen_path s f = if same f root then codes "/" else path_by levels_up (seen_parent s) (seen_name_at s) f

pub sees_path : (r : Repository) (u : List ℕ) (x : Object) → IsWellFormed r → is_a r bases.Folder x ≡ true → IsHere r u x → path_of r x.id ≡ seen_path (seen r u) x.id
sees_path r u x w k h = by_test (same x.id root)
    (λ e. rw e refl)
    (λ e. rw e (sees_steps levels_up r u x.id w (omega arith) (x, h.0, k) (sym (folder_reads r u x k) ∙ h.1)))
