use Rattle.std.proofs.Common.{ap, ◌∙◌}
use Rattle.cm_state.specs.Told.{entries_of}
use Rattle.cm_draft.proofs.made.filing_of.Goals as goal

pub returns : goal.returns
returns c = c.parts.invariant.told ∙ ap entries_of c.parts.view_is
