use Rattle.std.proofs.Common.{take}
use Rattle.cm_base.proofs.Differs.{HasSeen}
use Rattle.cmis_words.proofs.groups.differ.Given as goal

abbrev pub invariant-loop-name : goal.invariant-loop-name
invariant-loop-name l = HasSeen l.seen (take l.name-index l.names)
