-- Whether the users of these names may have these groups, as a test.
use Rattle.std.specs.Prelude.{ℕ, Bool, true, ◌&&◌, not, if◌then◌else◌, List, [], ◌∷◌, Option, Some, None}
use Rattle.std.specs.List.{list_all, list_any}
use Rattle.core.specs.Ordering.{nat_cmp, is_lt}
use Rattle.core.specs.Cmp.Lexicographic.{slice_cmp}
use Rattle.cm_base.specs.declared.user.Group.{Group}
use Rattle.cm_base.specs.UserLists.{is_user_name, is_reserved_name, all_differ}
use Rattle.cmis_spec.specs.Well.{is_user}
use Rattle.journal_people.specs.Told.{PeopleTold}

-- a user who may be a member of a group
abbrev pub is_member : List (List ℕ) → List ℕ → Bool
is_member users name = not (is_reserved_name name) && is_user users name

-- the test of `IsGroup`
abbrev pub may_be_group : List (List ℕ) → Group → Bool
may_be_group users g =
    (is_user_name g.name && not (is_user users g.name))
    && list_all (is_member users) g.members && all_differ g.members && list_any (λ m. true) g.members

-- groups stand in byte order of their names
abbrev pub rise : List Group → Bool
rise [] = true
rise (g ∷ gs) = list_all (λ h. is_lt (slice_cmp nat_cmp g.name h.name)) gs && rise gs

-- the test of `HasGroups`
abbrev pub has_groups : List (List ℕ) → List Group → Bool
has_groups users groups = rise groups && list_all (may_be_group users) groups

-- people of these names and groups, where they may have these
abbrev pub people_of : List (List ℕ) → List Group → Option PeopleTold
people_of names groups = if has_groups names groups then Some (record { names = names; groups = groups }) else None
