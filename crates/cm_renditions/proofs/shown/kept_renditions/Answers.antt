use Rattle.std.proofs.Common.{map, filter, ap, ◌∙◌}
use Rattle.cm_map.specs.Parts.{pointee}
use Rattle.cm_renditions.specs.Shown.{is_kept}
use Rattle.cm_renditions.proofs.shown.kept_renditions.Goals as goal

pub returns : goal.returns
returns c = c.in_ok-all.ensures ∙ ap (filter (is_kept c.args.which.now)) (ap (map pointee) c.deref.ensures.value ∙ c.in_ok-own.ensures)
