use Rattle.std.proofs.Common.{sym, arith}
use Rattle.cm_base.proofs.Differs.{names-again, names-new, from_not, from_not'}
use Rattle.cm_base.proofs.users.names_differ.Goals as goal

pub returns-then-not-branch : goal.returns-then-not-branch
returns-then-not-branch c =
    sym (names-again c.loop-piece.seen c.args.list.now c.loop-piece.piece-index _ c.name_part-name.result (omega arith) c.loop-piece.invariant
    (from_not _ _ c.in_ok-insert.ensures.added c.if-not-branch.true) c.name_part-name.ensures)

pub loop-piece-preserved : goal.loop-piece-preserved
loop-piece-preserved c =
    names-new c.loop-piece.seen c.insert.new.self c.args.list.now c.loop-piece.piece-index _ c.name_part-name.result (omega arith) c.loop-piece.invariant
    (from_not' _ _ c.in_ok-insert.ensures.added c.if-not-branch.false) c.name_part-name.ensures c.in_ok-insert.ensures.updates.0
