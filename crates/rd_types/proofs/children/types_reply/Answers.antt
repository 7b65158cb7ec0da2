use Rattle.std.proofs.Common.{◌≡◌, ◌∙◌, ◌+◌, length, map, nat_lt, refl, sym, ap}
use Rattle.std.proofs.lemmas.List.{length-map}
use Rattle.cm_map.specs.Parts.{pointee}
use Rattle.rd_nav.specs.ReadChildren.{has_more, page, page_size}
use Rattle.rd_types.proofs.Pages.{page_shown}
use Rattle.rd_types.proofs.children.types_reply.Goals as goal

pub returns : goal.returns
returns c =
    let q = c.args.q.now in
    let types = c.args.types.now in
    let shown : c.in_ok-copies.copies ≡ page q.skip_count q.max_items (map pointee types) = c.in_ok-copies.ensures ∙ (ap (map pointee) c.page-shown.ensures ∙ page_shown pointee q.skip_count q.max_items types) in
    let count : length types ≡ length (map pointee types) = sym (length-map types pointee) in
    let more : c.has_more.result ≡ has_more q.skip_count q.max_items (map pointee types) = c.has_more.ensures ∙ ap (nat_lt (q.skip_count + page_size q.max_items)) count in
    rw (shown, more, count) refl
