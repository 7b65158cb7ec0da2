-- The folders above a folder that a caller reads follow from what he sees.
use Rattle.std.specs.Prelude.{◌≡◌, ℕ, zero, suc, Bool, true, false, ◌&&◌, if◌then◌else◌, List, [], ◌∷◌, map, All, Option, Some, None, unwrap_or, option_map, option_and_then}
use Rattle.std.specs.List.{list_any}
use Rattle.std.proofs.Common.{refl, sym, ap, subst, ◌∙◌}
use Rattle.std.proofs.lemmas.Bool.{both_ways}
use Rattle.std.proofs.lemmas.List.Elements.{All-head, All-tail, All-filter, filter_passes}
use Rattle.cm_base.specs.declared.number.Oid.{Oid}
use Rattle.cm_base.specs.declared.object.Object.{Object}
use Rattle.cm_base.specs.declared.filing.Filed.{Filed}
use Rattle.cm_types.specs.declared.definition.BaseType.TheVariants as bases
use Rattle.cm_types.specs.Types.{is_of_base}
use Rattle.cmis_spec.specs.Repository.{Repository, same, root, levels_up, object_at, entry_of, is_a, is_filed, parent_in, upwards, folders_up}
use Rattle.cmis_spec.specs.Access.{reads, parents_of}
use Rattle.cmis_spec.specs.Seen.{Seen, seen, seen_object}
use Rattle.cmis_spec.specs.Well.{IsPair, IsBaseAt, IsWellFormed}
use Rattle.cmis_laws.proofs.Lists.{by_test, all_zip, none_some, same_eq, some_eq}
use Rattle.cmis_laws.proofs.Entries.{all_there}
use Rattle.cm_see.proofs.Looks.{seen_at, seen_parent, first_of}
use Rattle.cm_see.proofs.Objects.{IsHere, here_read, sees_at}
use Rattle.cm_see.proofs.SeenPaths.{sees_up}
use Rattle.cm_see.proofs.Worlds.{AreAlike}

and_first : (a b : Bool) → a && b ≡ true → a ≡ true
and_first true b h = refl
and_first false b h = absurd (both_ways false refl h)

pub and_second : (a b : Bool) → a && b ≡ true → b ≡ true
and_second true b h = h
and_second false b h = absurd (both_ways false refl h)

-- ---- the folders that are read

parents_here : (r : Repository) (u : List ℕ) (n : Oid) → IsWellFormed r → All (IsHere r u) (parents_of r u n)
parents_here r u n w = all_zip (λ y. object_at r y.id ≡ Some y) (λ y. is_filed r y.id n && reads r u y ≡ true) (IsHere r u) (parents_of r u n)
    (λ y there c. (there, and_second (is_filed r y.id n) (reads r u y) c))
    (All-filter (λ f. is_filed r f.id n && reads r u f) (λ y. object_at r y.id ≡ Some y) r.objects (all_there r.objects w.numbers.0))
    (filter_passes (λ f. is_filed r f.id n && reads r u f) r.objects)

-- what something is filed in is a folder
filed_folder : (r : Repository) (f n : Oid) (ps : List Filed) → All (IsPair r) ps → list_any (λ p. same p.folder f && same p.child n) ps ≡ true → IsBaseAt r bases.Folder f
filed_folder r f n [] h e = absurd (both_ways false refl e)
filed_folder r f n (p ∷ ps) h e = by_test (same p.folder f)
    (λ d. subst (IsBaseAt r bases.Folder) (same_eq p.folder f d) (All-head (IsPair r) p ps h).0)
    (λ d. filed_folder r f n ps (All-tail (IsPair r) p ps h) (rw d at e))

-- it is the object of its number
same_object : (r : Repository) (y : Object) → object_at r y.id ≡ Some y → IsBaseAt r bases.Folder y.id → is_a r bases.Folder y ≡ true
same_object r y there k = subst (λ z. is_a r bases.Folder z ≡ true) (some_eq k.0 y (sym k.1 ∙ there)) k.2

-- a folder that the caller reads
abbrev pub IsFolderHere : Repository → List ℕ → Object → Type 0
IsFolderHere r u x = IsHere r u x × (is_a r bases.Folder x ≡ true)

pub parents_folders : (r : Repository) (u : List ℕ) (n : Oid) → IsWellFormed r → All (IsFolderHere r u) (parents_of r u n)
parents_folders r u n w = all_zip (IsHere r u) (λ y. is_filed r y.id n && reads r u y ≡ true) (IsFolderHere r u) (parents_of r u n)
    (λ y here c. (here, same_object r y here.0 (filed_folder r y.id n r.filed w.pairs (and_first (is_filed r y.id n) (reads r u y) c))))
    (parents_here r u n w)
    (filter_passes (λ f. is_filed r f.id n && reads r u f) r.objects)

-- ---- upwards

-- the parent of a folder that is seen; the root has none
abbrev seen_up : Seen → Oid → Option Oid
seen_up s f = if same f root then None else seen_parent s f

-- a folder and those above it, by what the parent of a folder is
abbrev upwards_by : ℕ → (Oid → Option Oid) → Oid → List Oid
upwards_by zero up f = []
upwards_by (suc n) up f = f ∷ unwrap_or (option_map (upwards_by n up) (up f)) []

parent_seen : (r : Repository) (u : List ℕ) (x : Object) → IsWellFormed r → IsFolderHere r u x → parent_in r.filed x.id ≡ seen_up (seen r u) x.id
parent_seen r u x w h =
    let at : Some (seen_object r u x) ≡ seen_at (seen r u) x.id = sym (ap (option_map (seen_object r u)) (here_read r u x h.0)) ∙ sees_at r u x.id w.numbers in
    sees_up r u x w h.1 h.0 ∙ ap (λ s. if same x.id root then None else option_and_then (λ o. first_of o.folders) s) at

first_there : (P : Object → Type 0) (xs : List Object) (g : Oid) → All P xs → first_of (map (λ y. y.id) xs) ≡ Some g → (y : Object) × (y.id ≡ g) × P y
first_there P [] g h e = absurd (none_some g e)
first_there P (x ∷ xs) g h e = (x, some_eq x.id g e, All-head P x xs h)

-- the parent of a folder that is read is read
parent_here : (r : Repository) (u : List ℕ) (x : Object) (g : Oid) → IsWellFormed r → IsFolderHere r u x → parent_in r.filed x.id ≡ Some g → (y : Object) × (y.id ≡ g) × IsFolderHere r u y
parent_here r u x g w h e = by_test (same x.id root)
    (λ d. absurd (none_some g (rw d at up)))
    (λ d. first_there (IsFolderHere r u) (parents_of r u (entry_of x)) g (parents_folders r u (entry_of x) w) (rw d at up))
  where
    up : (if same x.id root then None else first_of (map (λ y. y.id) (parents_of r u (entry_of x)))) ≡ Some g
    up = sym (sees_up r u x w h.1 h.0) ∙ e

-- whoever reads a folder sees all folders above it
upwards_seen : (n : ℕ) (r : Repository) (u : List ℕ) (x : Object) → IsWellFormed r → IsFolderHere r u x → upwards n r.filed x.id ≡ upwards_by n (seen_up (seen r u)) x.id
upwards_seen zero r u x w h = refl
upwards_seen (suc n) r u x w h =
    let e : parent_in r.filed x.id ≡ seen_up (seen r u) x.id = parent_seen r u x w h in
    let rest : unwrap_or (option_map (upwards n r.filed) (parent_in r.filed x.id)) [] ≡ unwrap_or (option_map (upwards_by n (seen_up (seen r u))) (parent_in r.filed x.id)) [] =
    elim (parent_in r.filed x.id) as (λ o. parent_in r.filed x.id ≡ o → unwrap_or (option_map (upwards n r.filed) o) [] ≡ unwrap_or (option_map (upwards_by n (seen_up (seen r u))) o) []) [
      | None ↦ λ d. refl
      | Some g ↦ λ d.
          let p = parent_here r u x g w h d in
          subst (λ m. upwards n r.filed m ≡ upwards_by n (seen_up (seen r u)) m) p.1 (upwards_seen n r u p.0 w p.2)
    ] refl in
    ap (λ gs. x.id ∷ gs) (rest ∙ ap (λ o. unwrap_or (option_map (upwards_by n (seen_up (seen r u))) o) []) e)

-- ---- in two repositories that look the same

pub above_alike : (r other : Repository) (u : List ℕ) (x : Object) → AreAlike r other u → IsFolderHere r u x → IsHere other u x → folders_up r x.id ≡ folders_up other x.id
above_alike r other u x a h there =
    let types : r.types ≡ other.types = ap (λ s. s.types) (sym a.alike) in
    let k : IsFolderHere other u x = (there, subst (λ ts. is_of_base ts bases.Folder x.kind ≡ true) types h.1) in
    upwards_seen levels_up r u x a.well h ∙ (ap (λ s. upwards_by levels_up (seen_up s) x.id) (sym a.alike) ∙ sym (upwards_seen levels_up other u x a.other_well k))
