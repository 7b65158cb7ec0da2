use Rattle.std.proofs.Common.{◌∙◌}
use Rattle.cm_draft.proofs.Changed.{refiled_is, refiled_parts}
use Rattle.cm_draft.proofs.made.put_filing.Goals as goal

pub invariant_of-result : goal.invariant_of-result
invariant_of-result c = refiled_parts c.parts.inside c.args.draft (c.parts.view_is ∙ c.draft.view_is) c.args.filing c.requires.told

pub returns : goal.returns
returns c = refiled_is c.parts.inside c.args.draft (c.parts.view_is ∙ c.draft.view_is) c.args.filing
