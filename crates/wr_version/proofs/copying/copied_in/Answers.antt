use Rattle.std.proofs.Common.{◌+◌, ◌<◌, ◌^◌, All, sym, ap, subst, ◌∙◌}
use Rattle.std.specs.Prelude.{◌≡◌, true, is_some}
use Rattle.cm_base.specs.declared.log.ChangeKind.TheVariants.{Created}
use Rattle.cmis_spec.specs.Repository.{series_at}
use Rattle.cmis_spec.specs.Changes.{stepped, noted, edited_series}
use Rattle.cmis_spec.specs.Documents.{with_member, with_contents}
use Rattle.wr_version.proofs.Making.{kept_step, kept_cost}
use Rattle.wr_version.proofs.copying.copied_in.Goals as goal

pub with_member-requires : goal.with_member-requires
with_member-requires c =
    let r = c.args.state.now in
    let w = c.step-step.ensures.well in
    let same = sym c.in_ok-begun.ensures in
    record {
      room = subst (λ d. d.next + 1 < 2 ^ 64) same c.requires.next;
      above = subst (λ n. All (λ x. x.id.0 < n) c.in_ok-begun.begun.objects) (sym (ap (λ n. n.0) c.requires.number)) (subst (λ d. All (λ x. x.id.0 < r.next) d.objects) same w.numbers.1);
    }

pub edited_series-requires : goal.edited_series-requires
edited_series-requires c =
    let made = c.in_ok-made.ensures ∙ ap (λ d. with_member d c.args.copy) c.in_ok-begun.ensures in
    record { there = subst (λ d. is_some (series_at d c.args.series.id) ≡ true) (sym made) c.requires.there }

pub stepped-paid-requires : goal.stepped-paid-requires
stepped-paid-requires c =
    let made = c.in_ok-made.ensures ∙ ap (λ d. with_member d c.args.copy) c.in_ok-begun.ensures in
    let out = c.in_ok-out.ensures ∙ ap (λ d. edited_series d c.args.series) made in
    let full = c.in_ok-full.ensures ∙ ap (λ d. with_contents d c.args.content) out in
    record {
      step = subst (λ d. d.step + 1 < 2 ^ 64) (sym full) (kept_step (edited_series (with_member c.args.state.now c.args.copy) c.args.series) c.args.content c.requires.step);
      cost = subst (λ d. d.cost + c.args.cost < 2 ^ 64) (sym full) (kept_cost (edited_series (with_member c.args.state.now c.args.copy) c.args.series) c.args.content c.args.cost c.requires.cost);
    }

pub returns : goal.returns
returns c =
    let made = c.in_ok-made.ensures ∙ ap (λ d. with_member d c.args.copy) c.in_ok-begun.ensures in
    let out = c.in_ok-out.ensures ∙ ap (λ d. edited_series d c.args.series) made in
    let full = c.in_ok-full.ensures ∙ ap (λ d. with_contents d c.args.content) out in
    let paid = c.stepped-paid.ensures ∙ ap (λ d. stepped d c.args.cost) full in
    c.in_ok-noted.ensures ∙ (λ i. noted (paid i) Created c.args.copy.id c.args.moment (c.new.ensures i))
