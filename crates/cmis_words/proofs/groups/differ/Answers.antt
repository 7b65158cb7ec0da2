use Rattle.std.proofs.Common.{◌∙◌, sym, arith}
use Rattle.cmis_words.proofs.Differ.{again, new, was_in, was_out}
use Rattle.cmis_words.proofs.groups.differ.Goals as goal

pub returns-then-not-branch : goal.returns-then-not-branch
returns-then-not-branch c =
    sym (again c.loop-name.seen c.args.names.now c.loop-name.name-index _ c.as_str.result (omega arith) c.loop-name.invariant
    (was_in _ _ c.in_ok-insert.ensures.added c.if-not-branch.true) (c.as_str.ensures ∙ c.name-item.is))

pub loop-name-preserved : goal.loop-name-preserved
loop-name-preserved c =
    new c.loop-name.seen c.insert.new.self c.args.names.now c.loop-name.name-index _ c.as_str.result (omega arith) c.loop-name.invariant
    (was_out _ _ c.in_ok-insert.ensures.added c.if-not-branch.false) (c.as_str.ensures ∙ c.name-item.is) c.in_ok-insert.ensures.updates.0
