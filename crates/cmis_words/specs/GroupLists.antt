-- The list of groups that the program is given: NAME:MEMBER+MEMBER at each place between commas.
use Rattle.std.specs.Prelude.{◌≡◌, ℕ, ◌==◌, nat_le, Bool, true, false, ◌&&◌, not, List, [], ◌∷◌, length, map, fold, Option, Some, None, Result, Ok, Err, if◌then◌else◌}
use Rattle.std.specs.List.{list_all, list_any, slice_split, after_first}
use Rattle.core.specs.Ordering.{nat_cmp, is_lt}
use Rattle.core.specs.Cmp.Lexicographic.{slice_cmp}
use Rattle.cm_base.specs.declared.user.Group.{Group}
use Rattle.cm_base.specs.UserLists.{is_colon, is_user_name, pieces, name_part, all_differ}
use Rattle.cmis_spec.specs.Well.{is_user}
use Rattle.cmis_words.specs.declared.words.WordsStop.{WordsStop}
use Rattle.cmis_words.specs.declared.words.WordsStop.TheVariants as stops

abbrev pub is_plus : ℕ → Bool
is_plus b = b == 43

-- the members of a group: what stands between plus signs behind its first colon
abbrev pub members_part : List ℕ → List (List ℕ)
members_part piece = slice_split is_plus (after_first is_colon piece)

abbrev pub group_of : List ℕ → Group
group_of piece = record { name = name_part piece; members = members_part piece }

-- a name that is formed like a user's and is none, and members that are users, each once
abbrev pub is_group : List (List ℕ) → List ℕ → Bool
is_group users piece =
    list_any is_colon piece && (is_user_name (name_part piece) && not (is_user users (name_part piece)))
    && list_all (is_user users) (members_part piece) && all_differ (members_part piece)

-- a group in its place among others in byte order of their names
abbrev pub put_group : List Group → Group → List Group
put_group [] g = g ∷ []
put_group (h ∷ hs) g = if is_lt (slice_cmp nat_cmp g.name h.name) then g ∷ h ∷ hs else h ∷ put_group hs g

abbrev pub by_name : List Group → List Group
by_name groups = fold put_group [] groups

-- at most 100 groups, whose names differ
abbrev pub is_group_list : List (List ℕ) → List ℕ → Bool
is_group_list users list = nat_le (length (pieces list)) 100 && all_differ (map name_part (pieces list)) && list_all (is_group users) (pieces list)

-- the groups of these users in byte order of their names, or none where the list is not of its form
abbrev pub groups_of : List (List ℕ) → List ℕ → Option (List Group)
groups_of users list = if is_group_list users list then Some (by_name (map group_of (pieces list))) else None

-- one group; several groups in their order
abbrev pub ReadsGroup : Result Group WordsStop → List (List ℕ) → List ℕ → Type 0
ReadsGroup (Ok group) users piece = (is_group users piece ≡ true) × (group ≡ group_of piece)
ReadsGroup (Err stops.NotValid) users piece = is_group users piece ≡ false
ReadsGroup (Err stops.Memory) users piece = Unit {0}

abbrev pub ReadsEach : Result (List Group) WordsStop → List (List ℕ) → List (List ℕ) → Type 0
ReadsEach (Ok groups) users list = (list_all (is_group users) list ≡ true) × (groups ≡ by_name (map group_of list))
ReadsEach (Err stops.NotValid) users list = list_all (is_group users) list ≡ false
ReadsEach (Err stops.Memory) users list = Unit {0}

-- the groups of the list; words that are not valid exactly where it has none; want of memory is free
abbrev pub ReadsGroups : Result (List Group) WordsStop → List (List ℕ) → List ℕ → Type 0
ReadsGroups (Ok groups) users list = groups_of users list ≡ Some groups
ReadsGroups (Err stops.NotValid) users list = groups_of users list ≡ None
ReadsGroups (Err stops.Memory) users list = Unit {0}
