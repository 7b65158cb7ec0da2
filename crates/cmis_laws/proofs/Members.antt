-- The groups of a caller: in byte order of their names, and none for a caller without credentials.
use Rattle.std.specs.Prelude.{◌≡◌, ℕ, Bool, true, false, ◌&&◌, not, List, [], ◌∷◌, map, filter, All, bytes_eq, codes}
use Rattle.std.specs.List.{list_any}
use Rattle.core.specs.declared.cmp.Ordering.TheVariants.{Less}
use Rattle.core.specs.Ordering.{nat_cmp}
use Rattle.core.specs.Cmp.Lexicographic.{slice_cmp}
use Rattle.std.proofs.Common.{refl, ap}
use Rattle.std.proofs.lemmas.List.Elements.{All-head, All-tail}
use Rattle.cm_base.specs.UserLists.{is_reserved_name}
use Rattle.cm_base.specs.declared.user.Group.{Group}
use Rattle.cmis_spec.specs.Repository.{Repository}
use Rattle.cmis_spec.specs.Access.{groups_of}
use Rattle.cmis_spec.specs.Well.{Apart, is_user, IsGroup, IsWellFormed}
use Rattle.cmis_laws.proofs.Lists.{apart_map, bytes_turned}
use Rattle.cmis_laws.proofs.Left.{apart_filter, not_true}
use Rattle.cmis_laws.proofs.Passed.{or_left}

pub groups_rise : (r : Repository) (u : List ℕ) → IsWellFormed r → Apart (λ s t. slice_cmp nat_cmp s t ≡ Less) (groups_of r u)
groups_rise r u w =
    let mine : List Group = filter (λ (g : Group). list_any (bytes_eq u) g.members) r.groups in
    apart_map (λ s t. slice_cmp nat_cmp s t ≡ Less) (λ (g : Group). g.name) mine
    (apart_filter (λ (g h : Group). slice_cmp nat_cmp g.name h.name ≡ Less) (λ (g : Group). list_any (bytes_eq u) g.members) r.groups w.groups.0)

pub no_groups : (r : Repository) → IsWellFormed r → groups_of r (codes "anonymous") ≡ []
no_groups r w = ap (map (λ (g : Group). g.name)) (none r.groups w.groups.1)
  where
    first : (a b : Bool) → a && b ≡ true → a ≡ true
    first true b h = refl
    first false b h = h

    no_member : (ms : List (List ℕ)) → All (λ m. not (is_reserved_name m) && is_user r.users m ≡ true) ms → list_any (bytes_eq (codes "anonymous")) ms ≡ false
    no_member [] all = refl
    no_member (m ∷ ms) all =
        let other : is_reserved_name m ≡ false = not_true (is_reserved_name m) (first (not (is_reserved_name m)) (is_user r.users m) (All-head (λ m. not (is_reserved_name m) && is_user r.users m ≡ true) m ms all)) in
        let at : bytes_eq (codes "anonymous") m ≡ false = bytes_turned m (codes "anonymous") (or_left (bytes_eq m (codes "anonymous")) (bytes_eq m (codes "anyone")) other) in
        rw at (no_member ms (All-tail (λ m. not (is_reserved_name m) && is_user r.users m ≡ true) m ms all))

    none : (gs : List Group) → All (IsGroup r.users) gs → filter (λ (g : Group). list_any (bytes_eq (codes "anonymous")) g.members) gs ≡ []
    none [] all = refl
    none (g ∷ gs) all = rw (no_member g.members (All-head (IsGroup r.users) g gs all).1) (none gs (All-tail (IsGroup r.users) g gs all))
