use Rattle.std.proofs.Common.{◌≡◌, take, true}
use Rattle.std.specs.List.{list_all}
use Rattle.cm_base.specs.UserLists.{is_user, texts_of}
use Rattle.cm_base.proofs.users.are_users.Given as goal

abbrev pub invariant-loop-piece : goal.invariant-loop-piece
invariant-loop-piece l = list_all is_user (texts_of (take l.piece-index l.list)) ≡ true
