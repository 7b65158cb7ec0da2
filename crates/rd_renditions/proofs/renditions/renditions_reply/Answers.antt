use Rattle.std.proofs.Common.{◌∙◌, ap, map}
use Rattle.cm_map.specs.Parts.{pointee}
use Rattle.cm_renditions.specs.Shown.{shown_rendition}
use Rattle.rd_renditions.proofs.Pages.{page_mapped}
use Rattle.rd_renditions.proofs.renditions.renditions_reply.Goals as goal

pub returns : goal.returns
returns c =
    let q = c.args.q.now in
    ap (λ ds. record { renditions = ds })
    (c.in_ok-renditions.ensures
    ∙ ap (map shown_rendition) (ap (map pointee) c.page.ensures ∙ page_mapped pointee q.skip_count q.max_items c.args.kept.now))
