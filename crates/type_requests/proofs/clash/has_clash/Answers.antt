use Rattle.std.proofs.Common.{◌∙◌, ◌<◌, ◌||◌, ap, length, take, arith}
use Rattle.std.specs.Prelude.{bytes_eq}
use Rattle.std.specs.List.{list_any}
use Rattle.cm_types.specs.Changes.{has_clash}
use Rattle.type_requests.proofs.Clashing.{clash_step, name_step}
use Rattle.type_requests.proofs.clash.has_clash.Goals as goal

pub loop-def-preserved : goal.loop-def-preserved
loop-def-preserved c =
    let i = c.loop-def.def-index in
    let defs = c.args.defs.now in
    let lt : i < length defs = omega arith in
    let x = c.def-item.result in
    let front = take i defs in
    record {
      ids = λ q. c.in_ok-more_ids.ensures q
          ∙ ap (λ b. bytes_eq x.id q || b) (c.loop-def.invariant.ids q)
          ∙ ap (λ d. bytes_eq d.id q || list_any (λ e. bytes_eq e.id q) front) c.def-item.is
          ∙ name_step (λ d. d.id) q defs i x lt;
      names = λ q. c.in_ok-more_names.ensures q
          ∙ ap (λ b. bytes_eq x.query_name q || b) (c.loop-def.invariant.names q)
          ∙ ap (λ d. bytes_eq d.query_name q || list_any (λ e. bytes_eq e.query_name q) front) c.def-item.is
          ∙ name_step (λ d. d.query_name) q defs i x lt;
      found = c.either-found.ensures
          ∙ ap (λ b. c.loop-def.found || b) (c.either-here.ensures ∙ ap (λ b. b || c.has_name-in-loop-def.result) (c.has_name.ensures ∙ c.loop-def.invariant.ids x.id)
          ∙ ap (λ b. list_any (λ e. bytes_eq e.id x.id) front || b) (c.has_name-in-loop-def.ensures ∙ c.loop-def.invariant.names x.query_name))
          ∙ ap (λ b. b || (list_any (λ e. bytes_eq e.id x.id) front || list_any (λ e. bytes_eq e.query_name x.query_name) front)) c.loop-def.invariant.found
          ∙ ap (λ d. has_clash front || (list_any (λ e. bytes_eq e.id d.id) front || list_any (λ e. bytes_eq e.query_name d.query_name) front)) c.def-item.is
          ∙ clash_step defs i x lt;
    }
