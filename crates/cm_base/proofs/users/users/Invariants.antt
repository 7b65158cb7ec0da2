use Rattle.std.proofs.Common.{◌≡◌, take, map}
use Rattle.cm_base.specs.UserLists.{texts_of, user_of}
use Rattle.cm_base.proofs.users.users.Given as goal

abbrev pub invariant-loop-piece : goal.invariant-loop-piece
invariant-loop-piece l = l.all.items ≡ map user_of (texts_of (take l.piece-index l.list))
