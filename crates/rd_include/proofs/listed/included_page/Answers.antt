use Rattle.std.proofs.Common.{◌≡◌, ◌∙◌, ◌+◌, length, map, nat_lt, refl, sym, ap}
use Rattle.std.proofs.lemmas.List.{length-map}
use Rattle.cm_map.specs.Parts.{pointee}
use Rattle.cm_include.specs.Included.{included_in}
use Rattle.rd_nav.specs.ReadChildren.{has_more, page, page_size}
use Rattle.rd_nav.proofs.Pages.{page_mapped}
use Rattle.rd_include.proofs.listed.included_page.Goals as goal

pub returns : goal.returns
returns c =
    let skip = c.args.skip_count in
    let asked = c.args.max_items in
    let all = c.args.objects.now in
    let shown = included_in c.args.view in
    let objects : c.in_ok-all.all ≡ map shown (page skip asked (map pointee all)) =
    c.in_ok-all.ensures
    ∙ (ap (λ p. map shown (map pointee p)) c.page-shown.ensures
    ∙ ap (map shown) (page_mapped pointee skip asked all)) in
    let count : length all ≡ length (map pointee all) = sym (length-map all pointee) in
    let more : c.has_more.result ≡ has_more skip asked (map pointee all) = c.has_more.ensures ∙ ap (nat_lt (skip + page_size asked)) count in
    rw (objects, more, count) refl
