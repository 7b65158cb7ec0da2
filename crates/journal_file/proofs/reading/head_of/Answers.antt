use Rattle.std.proofs.Common.{arith}
use Rattle.journal_file.proofs.Heads.{closed_head, broken_head}
use Rattle.journal_file.proofs.reading.head_of.Goals as goal

pub returns-then-gate-ne1-clause-is : goal.returns-then-gate-ne1-clause-is
returns-then-gate-ne1-clause-is c behind is = closed_head c.args.head.now behind _ _ c.split_head-gate.ensures c.if-gate-ne1.true

pub returns-then-len-left-clause-is : goal.returns-then-len-left-clause-is
returns-then-len-left-clause-is c behind is = broken_head c.args.head.now behind _ _ c.split_head-gate.ensures c.if-gate-ne1.false (omega arith) (omega (arith, is, c.if-len-left.true))
