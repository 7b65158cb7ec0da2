use Rattle.std.proofs.Common.{ap, ◌∙◌, [], arith}
use Rattle.std.specs.Prelude.{fold}
use Rattle.std.proofs.lemmas.List.{take_all}
use Rattle.rd_access.specs.Grouped.{grouped_with}
use Rattle.rd_access.proofs.Grouping.{grouped}
use Rattle.rd_access.proofs.acl.shown_aces.Goals as goal

pub returns : goal.returns
returns c = c.from_vec.ensures
    ∙ (c.loop-ace.invariant
    ∙ (ap (fold grouped_with []) (take_all c.loop-ace.ace-index c.args.aces.now (omega (arith, c.loop-ace-test.false)))
    ∙ grouped c.args.aces.now c.requires.ordered))
