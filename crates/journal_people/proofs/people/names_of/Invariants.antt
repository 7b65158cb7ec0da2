use Rattle.std.proofs.Common.{◌≡◌, map, take}
use Rattle.journal_people.proofs.people.names_of.Given as goal

abbrev pub invariant-loop-user : goal.invariant-loop-user
invariant-loop-user l = l.names ≡ map (λ u. u.name) (take l.user-index l.users)
