-- How the repository of a journal goes on with other people.
use Rattle.std.specs.Prelude.{ℕ, Bool, if◌then◌else◌, List, [], ◌∷◌, ◌++◌, length, map}
use Rattle.cm_base.specs.declared.log.Change.{Change}
use Rattle.cmis_spec.specs.Repository.{Repository}
use Rattle.cmis_spec.specs.Seen.{is_deletion, marked, place_among}
use Rattle.journal_people.specs.Told.{PeopleTold}

-- the marks of a deletion in the order of other users: each has the mark that he had, a new one that of anybody else
abbrev pub marks_for : List (List ℕ) → List (List ℕ) → List Bool → List Bool
marks_for users names marks = map (λ name. marked marks (place_among users name)) names ++ marked marks (length users) ∷ []

-- an event with the marks of other users, where it is a deletion
abbrev pub event_for : List (List ℕ) → List (List ℕ) → Change → Change
event_for users names c = if is_deletion c.kind then record c { readers = marks_for users names c.readers } else c

-- The users and the groups are others from here on; the marks in the log stand in the order of the users.
abbrev pub adopted : Repository → PeopleTold → Repository
adopted r people = record r { users = people.names; groups = people.groups; log = map (event_for r.users people.names) r.log }
