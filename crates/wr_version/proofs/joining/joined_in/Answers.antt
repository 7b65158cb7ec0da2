use Rattle.std.proofs.Common.{◌+◌, ◌<◌, ◌^◌, sym, ap, subst, ◌∙◌}
use Rattle.std.specs.Prelude.{◌≡◌, true, is_some}
use Rattle.cm_base.specs.declared.log.ChangeKind.TheVariants.{Updated}
use Rattle.cmis_spec.specs.Repository.{object_at, series_at}
use Rattle.cmis_spec.specs.Changes.{stepped, noted, edited, edited_series}
use Rattle.cmis_spec.specs.Documents.{with_contents}
use Rattle.wr_version.proofs.Making.{kept_step, kept_cost}
use Rattle.wr_version.proofs.joining.joined_in.Goals as goal

pub edited-requires : goal.edited-requires
edited-requires c = record { there = subst (λ d. is_some (object_at d c.args.version.id) ≡ true) (sym c.in_ok-begun.ensures) c.requires.copy }

pub edited_series-requires : goal.edited_series-requires
edited_series-requires c =
    let put = c.in_ok-put.ensures ∙ ap (λ d. edited d c.args.version.id (λ _. c.args.version)) c.in_ok-begun.ensures in
    record { there = subst (λ d. is_some (series_at d c.args.series.id) ≡ true) (sym put) c.requires.there }

pub stepped-paid-requires : goal.stepped-paid-requires
stepped-paid-requires c =
    let put = c.in_ok-put.ensures ∙ ap (λ d. edited d c.args.version.id (λ _. c.args.version)) c.in_ok-begun.ensures in
    let joined = c.in_ok-joined.ensures ∙ ap (λ d. edited_series d c.args.series) put in
    let full = c.in_ok-full.ensures ∙ ap (λ d. with_contents d c.args.content) joined in
    let made = edited_series (edited c.args.state.now c.args.version.id (λ _. c.args.version)) c.args.series in
    record {
      step = subst (λ d. d.step + 1 < 2 ^ 64) (sym full) (kept_step made c.args.content c.requires.step);
      cost = subst (λ d. d.cost + c.args.cost < 2 ^ 64) (sym full) (kept_cost made c.args.content c.args.cost c.requires.cost);
    }

pub returns : goal.returns
returns c =
    let put = c.in_ok-put.ensures ∙ ap (λ d. edited d c.args.version.id (λ _. c.args.version)) c.in_ok-begun.ensures in
    let joined = c.in_ok-joined.ensures ∙ ap (λ d. edited_series d c.args.series) put in
    let full = c.in_ok-full.ensures ∙ ap (λ d. with_contents d c.args.content) joined in
    let paid = c.stepped-paid.ensures ∙ ap (λ d. stepped d c.args.cost) full in
    c.in_ok-noted.ensures ∙ (λ i. noted (paid i) Updated c.args.version.id c.args.version.modified_at (c.new.ensures i))
