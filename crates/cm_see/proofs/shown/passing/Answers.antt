use Rattle.std.proofs.Common.{◌∙◌, ap, map, rules}
use Rattle.std.proofs.lemmas.Fn.{filter_same}
use Rattle.cm_map.specs.Parts.{pointee}
use Rattle.cmis_laws.proofs.Left.{filter_map_swap}
use Rattle.cm_see.specs.Shown.{passes}
use Rattle.cm_see.proofs.shown.passing.Goals as goal

pub returns : goal.returns
returns c =
    ap (map pointee) (filter_same _ _ _ (λ x b f' k. search rules) _ _ c.retain.ensures.filtered)
    ∙ filter_map_swap pointee (passes c.args.wanted.now) c.args.defs.items
