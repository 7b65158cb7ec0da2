use Rattle.std.proofs.Common.{◌≡◌, ◌+◌, ◌<◌, ◌^◌, sym, ap, subst, ◌∙◌}
use Rattle.std.specs.Prelude.{All}
use Rattle.cm_base.specs.declared.log.ChangeKind.TheVariants.{Updated}
use Rattle.cmis_spec.specs.Changes.{stepped, noted}
use Rattle.cmis_spec.specs.Well.{IsWellFormed}
use Rattle.wr_rendition.specs.AddRendition.{added, with_rendition}
use Rattle.wr_rendition.proofs.draft.added.Goals as goal
use Rattle.wr_rendition.proofs.draft.added.Goals.{In_ok-noted}

pub with_rendition-requires : goal.with_rendition-requires
with_rendition-requires c = record {
  room = subst (λ d. d.next + 1 < 2 ^ 64) (sym c.in_ok-begun.ensures) c.requires.room;
  above = subst (λ d. All (λ e. e.id.0 < c.args.rendition.id.0) d.renditions) (sym c.in_ok-begun.ensures) c.requires.above;
}

pub stepped-paid-requires : goal.stepped-paid-requires
stepped-paid-requires c =
    let longer = c.in_ok-longer.ensures ∙ ap (λ d. with_rendition d c.args.rendition) c.in_ok-begun.ensures in
    record {
      step = subst (λ d. d.step + 1 < 2 ^ 64) (sym longer) c.requires.step;
      cost = subst (λ d. d.cost + c.args.cost < 2 ^ 64) (sym longer) c.requires.cost;
    }

is_added : (c : In_ok-noted) → c.in_ok-noted.noted ≡ added c.args.state.now c.args.rendition c.args.moment c.args.cost
is_added c =
    let longer = c.in_ok-longer.ensures ∙ ap (λ d. with_rendition d c.args.rendition) c.in_ok-begun.ensures in
    let paid = c.stepped-paid.ensures ∙ ap (λ d. stepped d c.args.cost) longer in
    c.in_ok-noted.ensures ∙ (λ i. noted (paid i) Updated c.args.rendition.of c.args.moment (c.new.ensures i))

pub seal-requires : goal.seal-requires
seal-requires c = record { well = subst IsWellFormed (sym (is_added c)) c.requires.well }

pub returns : goal.returns
returns c =
    let longer = c.in_ok-longer.ensures ∙ ap (λ d. with_rendition d c.args.rendition) c.in_ok-begun.ensures in
    let paid = c.stepped-paid.ensures ∙ ap (λ d. stepped d c.args.cost) longer in
    c.seal.ensures ∙ (c.in_ok-noted.ensures ∙ (λ i. noted (paid i) Updated c.args.rendition.of c.args.moment (c.new.ensures i)))
