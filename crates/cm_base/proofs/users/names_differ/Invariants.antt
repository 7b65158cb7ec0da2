use Rattle.std.proofs.Common.{take}
use Rattle.cm_base.proofs.Differs.{names, HasSeen}
use Rattle.cm_base.proofs.users.names_differ.Given as goal

abbrev pub invariant-loop-piece : goal.invariant-loop-piece
invariant-loop-piece l = HasSeen l.seen (names (take l.piece-index l.list))
