-- The names of users who were made of names.
use Rattle.std.specs.Prelude.{◌≡◌, ℕ, List, [], ◌∷◌, map}
use Rattle.std.proofs.Common.{refl, sym, ap, subst}
use Rattle.cm_base.specs.declared.user.User.{User}
use Rattle.cm_base.specs.declared.user.Group.{Group}
use Rattle.cmis_spec.specs.Well.{HasGroups}
use Rattle.cm_people.specs.Begun.{user_named}

pub names_stay : (names : List (List ℕ)) → map (λ (u : User). u.name) (map user_named names) ≡ names
names_stay [] = refl
names_stay (n ∷ ns) = ap (λ (l : List (List ℕ)). n ∷ l) (names_stay ns)

-- who are made of names have the groups that these may have
pub have_groups : (names : List (List ℕ)) (groups : List Group) → HasGroups names groups → HasGroups (map (λ (u : User). u.name) (map user_named names)) groups
have_groups names groups has = subst (λ (l : List (List ℕ)). HasGroups l groups) (sym (names_stay names)) has
