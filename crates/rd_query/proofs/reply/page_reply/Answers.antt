use Rattle.std.proofs.Common.{◌≡◌, ◌∙◌, ◌+◌, length, map, nat_lt, refl, sym, ap}
use Rattle.std.proofs.lemmas.List.{length-map}
use Rattle.cm_map.specs.Parts.{pointee}
use Rattle.rd_nav.specs.ReadChildren.{has_more, page, page_size}
use Rattle.rd_query.specs.ReadQuery.{query_row}
use Rattle.rd_query.proofs.Pages.{page_shown}
use Rattle.rd_query.proofs.reply.page_reply.Goals as goal

pub returns : goal.returns
returns c =
    let q = c.args.q.now in
    let rows = c.args.rows.now in
    let shown : c.in_ok-all.all ≡ map (query_row c.args.state.now c.args.user.now q c.args.columns.now) (page q.skip_count q.max_items (map pointee rows)) =
    c.in_ok-all.ensures
    ∙ (ap (λ p. map (query_row c.args.state.now c.args.user.now q c.args.columns.now) (map pointee p)) c.page-shown.ensures
    ∙ ap (map (query_row c.args.state.now c.args.user.now q c.args.columns.now)) (page_shown pointee q.skip_count q.max_items rows)) in
    let count : length rows ≡ length (map pointee rows) = sym (length-map rows pointee) in
    let more : c.has_more.result ≡ has_more q.skip_count q.max_items (map pointee rows) = c.has_more.ensures ∙ ap (nat_lt (q.skip_count + page_size q.max_items)) count in
    rw (shown, more, count) refl
