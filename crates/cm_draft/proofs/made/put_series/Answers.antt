use Rattle.std.proofs.Common.{◌∙◌}
use Rattle.cm_draft.proofs.Changed.{series_put, series_parts}
use Rattle.cm_draft.proofs.made.put_series.Goals as goal

pub invariant_of-result : goal.invariant_of-result
invariant_of-result c =
    series_parts c.parts.inside c.args.draft (c.parts.view_is ∙ c.draft.view_is) c.args.filing c.with_series-lists.result c.args.series c.with_series-lists.ensures c.requires.told

pub returns : goal.returns
returns c =
    series_put c.parts.inside c.args.draft (c.parts.view_is ∙ c.draft.view_is) c.args.filing c.with_series-lists.result c.args.series c.with_series-lists.ensures c.requires.told
