-- The people of a run, judged by those of the file.
use Rattle.std.specs.Prelude.{ℕ, Bool, ◌&&◌, not, if◌then◌else◌, List, find, Option, is_none, bytes_eq}
use lib.Pointwise.{pointwise}
use Rattle.cm_base.specs.declared.user.Group.{Group}
use Rattle.cmis_spec.specs.Repository.{administrator_of}
use Rattle.cmis_spec.specs.Well.{is_user}
use Rattle.journal_start.specs.declared.meeting.Meeting.{Meeting}
use Rattle.journal_start.specs.declared.meeting.Meeting.TheVariants.{Same, Changed, Refused}
use Rattle.journal_people.specs.Told.{PeopleTold}

-- ---- the same people

abbrev pub same_names : List (List ℕ) → List (List ℕ) → Bool
same_names names others = pointwise bytes_eq names others

abbrev pub same_group : Group → Group → Bool
same_group g h = bytes_eq g.name h.name && same_names g.members h.members

-- the same names, and the same groups, each in their order
abbrev pub same_people : PeopleTold → PeopleTold → Bool
same_people kept asked = same_names kept.names asked.names && pointwise same_group kept.groups asked.groups

-- ---- more people

-- the first name of the file that the run does not have
abbrev pub lacking : PeopleTold → PeopleTold → Option (List ℕ)
lacking kept asked = find (λ name. not (is_user asked.names name)) kept.names

abbrev pub same_administrator : PeopleTold → PeopleTold → Bool
same_administrator kept asked = bytes_eq (administrator_of kept.names) (administrator_of asked.names)

-- ---- rules

-- There may be new names, and other groups; the administrator stays, and no name goes.
abbrev pub growing : PeopleTold → PeopleTold → Meeting
growing kept asked =
    if same_people kept asked then Same
    else if same_administrator kept asked && is_none (lacking kept asked) then Changed
    else Refused

-- All stay as they are.
abbrev pub staying : PeopleTold → PeopleTold → Meeting
staying kept asked = if same_people kept asked then Same else Refused
