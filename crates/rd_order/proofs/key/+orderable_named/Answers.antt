use Rattle.std.proofs.Common.{◌≡◌, ◌∙◌, map, sym, ap}
use Rattle.std.specs.Prelude.{◌&&◌, find, Some, None, bytes_eq}
use Rattle.std.specs.Option.{option_or}
use Rattle.cm_map.specs.Parts.{pointee}
use Rattle.rd_order.specs.Ordered.{orderable_named}
use Rattle.rd_order.proofs.Keys.{behind, own, first_type}
use Rattle.rd_order.proofs.key.+orderable_named.Goals as goal

pub returns-in-Some : goal.returns-in-Some
returns-in-Some t c =
    let name = c.args.name.now in
    let first = first_type c.args.types.now name c.def-item.result c.in-len1-up.len_at_least c.def-item.is in
    let here : own name c.def-item.result.now ≡ Some c.in-Some.property.now = ap (find (λ d. d.orderable && bytes_eq d.query_name name)) (sym c.as_slice.ensures) ∙ sym c.in-Some.ensures in
    sym (first ∙ ap (λ o. option_or o (orderable_named (map pointee (behind c.args.types.now)) name)) here)

pub returns-in-None : goal.returns-in-None
returns-in-None t c =
    let name = c.args.name.now in
    let first = first_type c.args.types.now name c.def-item.result c.in-len1-up.len_at_least c.def-item.is in
    let here : own name c.def-item.result.now ≡ None = ap (find (λ d. d.orderable && bytes_eq d.query_name name)) (sym c.as_slice.ensures) ∙ sym c.in-None.ensures in
    c.orderable_named.ensures
    ∙ sym (first ∙ ap (λ o. option_or o (orderable_named (map pointee (behind c.args.types.now)) name)) here)
