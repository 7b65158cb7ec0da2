use Rattle.std.proofs.Common.{arith}
use Rattle.cm_folder.proofs.Below.{none_deeper}
use Rattle.cm_folder.proofs.filing.Filing.has_deep.Goals as goal

pub returns-then-depth-moved : goal.returns-then-depth-moved
returns-then-depth-moved c = none_deeper c.args.self.now c.args.child c.args.target (omega (arith, c.if-depth-moved.true, c.depth-depth.ensures.value, c.depth-moved.ensures.value))
