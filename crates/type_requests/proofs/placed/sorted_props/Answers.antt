use Rattle.std.proofs.Common.{◌∙◌, ◌<◌, List, [], ap, sym, length, take, arith}
use Rattle.std.proofs.lemmas.List.Sums.{fold_more}
use Rattle.cm_types.specs.declared.property.PropDef.{PropDef}
use Rattle.cm_types.specs.Changes.{placed, sorted_props}
use Rattle.type_requests.proofs.placed.sorted_props.Goals as goal

pub loop-def-preserved : goal.loop-def-preserved
loop-def-preserved c =
    let i = c.loop-def.def-index in
    let defs = c.args.defs.now in
    let lt : i < length defs = omega arith in
    let step : List PropDef → PropDef → List PropDef = λ all d. placed (λ e. e.id) d all in
    let before = c.loop-def.invariant.values in
    let more = fold_more step [] defs i c.def-item.result lt in
    record {
      keyed = c.in_ok-next.ensures.keyed;
      values = c.in_ok-next.ensures.values ∙ ap (placed (λ e. e.id) c.def-item.result) before ∙ ap (λ d. placed (λ e. e.id) d (sorted_props (take i defs))) c.def-item.is ∙ sym more;
    }
