use Rattle.std.proofs.Common.{◌≡◌, ◌+◌, ◌<◌, ◌^◌, true, sym, ap, subst, ◌∙◌}
use Rattle.std.specs.Prelude.{is_some}
use Rattle.cm_base.specs.declared.log.ChangeKind.TheVariants.{Updated}
use Rattle.cmis_spec.specs.Repository.{object_at}
use Rattle.cmis_spec.specs.Changes.{stepped, noted, edited}
use Rattle.cmis_spec.specs.Documents.{with_content}
use Rattle.cmis_spec.specs.Well.{IsWellFormed}
use Rattle.wr_content.specs.Changed.{filled}
use Rattle.wr_content.proofs.document.filled.Goals as goal
use Rattle.wr_content.proofs.document.filled.Goals.{In_ok-noted}

pub edited-requires : goal.edited-requires
edited-requires c = record { there = subst (λ d. is_some (object_at d c.args.x.id) ≡ true) (sym c.in_ok-begun.ensures) c.requires.there }

pub stepped-paid-requires : goal.stepped-paid-requires
stepped-paid-requires c =
    let put = c.in_ok-put.ensures ∙ ap (λ d. edited d c.args.x.id (λ _. c.args.x)) c.in_ok-begun.ensures in
    let full = c.in_ok-full.ensures ∙ ap (λ d. with_content d c.args.content) put in
    record {
      step = subst (λ d. d.step + 1 < 2 ^ 64) (sym full) c.requires.step;
      cost = subst (λ d. d.cost + c.args.cost < 2 ^ 64) (sym full) c.requires.cost;
    }

is_filled : (c : In_ok-noted) → c.in_ok-noted.noted ≡ filled c.args.state.now c.args.x c.args.content c.args.cost
is_filled c =
    let put = c.in_ok-put.ensures ∙ ap (λ d. edited d c.args.x.id (λ _. c.args.x)) c.in_ok-begun.ensures in
    let full = c.in_ok-full.ensures ∙ ap (λ d. with_content d c.args.content) put in
    let paid = c.stepped-paid.ensures ∙ ap (λ d. stepped d c.args.cost) full in
    c.in_ok-noted.ensures ∙ (λ i. noted (paid i) Updated c.args.x.id c.args.x.modified_at (c.new.ensures i))

pub seal-requires : goal.seal-requires
seal-requires c = record { well = subst IsWellFormed (sym (is_filled c)) c.requires.well }

pub returns : goal.returns
returns c =
    let put = c.in_ok-put.ensures ∙ ap (λ d. edited d c.args.x.id (λ _. c.args.x)) c.in_ok-begun.ensures in
    let full = c.in_ok-full.ensures ∙ ap (λ d. with_content d c.args.content) put in
    let paid = c.stepped-paid.ensures ∙ ap (λ d. stepped d c.args.cost) full in
    c.seal.ensures ∙ (c.in_ok-noted.ensures ∙ (λ i. noted (paid i) Updated c.args.x.id c.args.x.modified_at (c.new.ensures i)))
