use Rattle.std.proofs.Common.{ap, ◌∙◌}
use Rattle.cm_base.specs.declared.log.ChangeKind.TheVariants.{Updated}
use Rattle.cmis_spec.specs.Changes.{noted, edited}
use Rattle.wr_change.specs.UpdateParts.{with_maybe}
use Rattle.wr_change.proofs.putting.put_in.Goals as goal

pub returns : goal.returns
returns c =
    let named = c.in_ok-named.ensures ∙ ap (λ d. with_maybe d c.args.series) c.in_ok-begun.ensures in
    let put = c.in_ok-put.ensures ∙ ap (λ d. edited d c.args.object.id (λ _. c.args.object)) named in
    c.in_ok-noted.ensures ∙ (λ i. noted (put i) Updated c.args.object.id c.args.object.modified_at (c.new.ensures i))
