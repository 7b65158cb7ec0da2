use Rattle.std.proofs.Common.{ap, ◌∙◌}
use Rattle.std.specs.List.{list_any}
use Rattle.cm_types.specs.Properties.{scalars_of, value_in}
use Rattle.cm_relationships.specs.Found.{names}
use Rattle.cm_relationships.proofs.Ties.{any_text}
use Rattle.cm_relationships.proofs.ends.is_end.Goals as goal

pub returns : goal.returns
returns c =
    c.slot_names.ensures
    ∙ (ap (λ slots. list_any (names c.args.n) (scalars_of (value_in slots c.args.property.now))) c.as_slice.ensures
    ∙ any_text c.args.n (scalars_of (value_in c.args.x.now.values c.args.property.now)))
