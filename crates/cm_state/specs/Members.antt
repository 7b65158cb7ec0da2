-- The groups of which a user is a member.
use Rattle.std.specs.Prelude.{◌≡◌, ℕ, List, [], String, map, filter, bytes_eq, unwrap_or}
use Rattle.std.specs.List.{list_any}
use Rattle.std.specs.BTreeMap.{BTreeMap, get_by_text}
use Rattle.cm_base.specs.declared.user.Group.{Group}
use Rattle.cm_state.specs.declared.people.People.TheInside.{Inside}

-- the names of the users, of whom the first is the administrator, and the groups
pub record Principals : Type 0 where
  pub users : List (List ℕ)
  pub groups : List Group

abbrev pub principals_of : Inside → Principals
principals_of p = record { users = p.users; groups = p.groups }

-- the names of the groups that have the user as a member, in their order
abbrev pub names_of : List Group → List ℕ → List (List ℕ)
names_of groups u = map (λ g. g.name) (filter (λ g. list_any (bytes_eq u) g.members) groups)

-- what the map has at the user: without an entry none
abbrev pub names_at : {Y : Type 0} → BTreeMap (String Y) (List (List ℕ)) → List ℕ → List (List ℕ)
names_at by_member u = unwrap_or (get_by_text by_member u) []

-- each user finds the names of his groups, and nobody else is a member
abbrev pub FindsGroups : Inside → Type 0
FindsGroups p = (u : List ℕ) → unwrap_or (get_by_text p.by_member u) p.no_groups ≡ names_of p.groups u
