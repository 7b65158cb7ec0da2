-- The people of a journal.
use Rattle.std.specs.Prelude.{ℕ, List}
use Rattle.cm_base.specs.declared.user.Group.{Group}

-- the names of the users, of whom the first is the administrator, and the groups
pub record PeopleTold : Type 0 where
  pub names : List (List ℕ)
  pub groups : List Group
