use Rattle.std.proofs.Common.{◌∙◌}
use Rattle.cm_draft.proofs.Changed.{objects_put, objects_parts}
use Rattle.cm_draft.proofs.made.put_objects.Goals as goal

pub invariant_of-result : goal.invariant_of-result
invariant_of-result c =
    objects_parts c.parts.inside c.args.draft (c.parts.view_is ∙ c.draft.view_is) c.args.filing c.with_objects-lists.result c.args.objects c.with_objects-lists.ensures c.requires.told

pub returns : goal.returns
returns c =
    objects_put c.parts.inside c.args.draft (c.parts.view_is ∙ c.draft.view_is) c.args.filing c.with_objects-lists.result c.args.objects c.with_objects-lists.ensures c.requires.told
