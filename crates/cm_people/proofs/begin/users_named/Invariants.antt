use Rattle.std.proofs.Common.{◌≡◌, map, take}
use Rattle.cm_people.specs.Begun.{user_named}
use Rattle.cm_people.proofs.begin.users_named.Given as goal

abbrev pub invariant-loop-name : goal.invariant-loop-name
invariant-loop-name l = l.users ≡ map user_named (take l.name-index l.names)
