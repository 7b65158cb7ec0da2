-- How the repository of a journal begins.
use Rattle.std.specs.Prelude.{ℕ, List, [], map}
use Rattle.cm_base.specs.declared.number.Moment.{Moment}
use Rattle.cm_base.specs.declared.user.User.{User}
use Rattle.cm_base.specs.Limits.{greatest_limits}
use Rattle.cm_types.specs.BaseTypes.{base_types}
use Rattle.cmis_spec.specs.Repository.{Repository, opening}
use Rattle.journal_people.specs.Told.{PeopleTold}

-- a user as a repository knows him: without a secret
abbrev pub user_named : List ℕ → User
user_named name = record { name = name; secret = [] }

-- the base types and the root, which the administrator made at this moment; no step was taken, and there may be as many as there are numbers for
abbrev pub begun : Moment → PeopleTold → Repository
begun moment people = opening base_types (map user_named people.names) people.groups (record { moment = moment; first_step = 0; limits = greatest_limits })
