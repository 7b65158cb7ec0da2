use Rattle.std.proofs.Common.{◌≡◌, ◌∙◌, ◌+◌, length, map, nat_lt, refl, sym, ap}
use Rattle.std.proofs.lemmas.List.{length-map}
use Rattle.cm_map.specs.Parts.{pointee}
use Rattle.rd_nav.specs.ReadChildren.{has_more, page, page_size}
use Rattle.rd_include.specs.ShowChildren.{included_child}
use Rattle.rd_nav.proofs.Pages.{page_mapped}
use Rattle.rd_include.proofs.children.included_children.Goals as goal

pub returns : goal.returns
returns c =
    let q = c.args.q.now in
    let children = c.args.children.now in
    let members : c.in_ok-members.members ≡ map (included_child c.args.state.now c.args.user.now q) (page q.children.skip_count q.children.max_items (map pointee children)) =
    c.in_ok-members.ensures
    ∙ (ap (λ p. map (included_child c.args.state.now c.args.user.now q) (map pointee p)) c.page-shown.ensures
    ∙ ap (map (included_child c.args.state.now c.args.user.now q)) (page_mapped pointee q.children.skip_count q.children.max_items children)) in
    let count : length children ≡ length (map pointee children) = sym (length-map children pointee) in
    let more : c.has_more.result ≡ has_more q.children.skip_count q.children.max_items (map pointee children) = c.has_more.ensures ∙ ap (nat_lt (q.children.skip_count + page_size q.children.max_items)) count in
    rw (members, more, count) refl
