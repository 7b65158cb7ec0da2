use Rattle.std.proofs.Common.{◌<◌, length, arith}
use Rattle.cm_types.specs.Properties.{scalar_of_text}
use Rattle.cm_types.proofs.Lists.{filter_map_more}
use Rattle.cm_rules.proofs.text.scalars_of_texts.Goals as goal

pub loop-text-preserved : goal.loop-text-preserved
loop-text-preserved c =
    let lt : c.loop-text.text-index < length c.args.texts.now = omega arith in
    let e = filter_map_more (scalar_of_text c.args.kind) c.args.texts.now c.loop-text.text-index c.text-item.result lt in
    cc (e, c.in_ok-found.ensures, c.in_ok-add_found.ensures)
