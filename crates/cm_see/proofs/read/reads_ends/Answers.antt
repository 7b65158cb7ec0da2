use Rattle.std.proofs.Common.{◌∙◌}
use Rattle.cm_types.specs.Properties.{value_in}
use Rattle.cm_see.proofs.Ends.{ends_by_scalars}
use Rattle.cm_see.proofs.read.reads_ends.Goals as goal

pub returns : goal.returns
returns c = rw (← c.as_slice.ensures) (c.reads_slot.ensures ∙ ends_by_scalars c.args.state.now c.args.user.now (value_in c.as_slice.result.now c.args.id.now))
