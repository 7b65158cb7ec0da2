use Rattle.std.proofs.Common.{◌≡◌, ◌+◌, ◌<◌, ◌^◌, true, sym, ap, subst, ◌∙◌}
use Rattle.std.specs.Prelude.{is_some}
use Rattle.cm_base.specs.declared.log.ChangeKind.TheVariants.{Updated}
use Rattle.cmis_spec.specs.Repository.{object_at}
use Rattle.cmis_spec.specs.Changes.{stepped, noted, edited, without_content}
use Rattle.cmis_spec.specs.Well.{IsWellFormed}
use Rattle.wr_content.specs.Changed.{cleared}
use Rattle.wr_content.proofs.document.cleared.Goals as goal
use Rattle.wr_content.proofs.document.cleared.Goals.{In_ok-noted}

pub edited-requires : goal.edited-requires
edited-requires c = record { there = subst (λ d. is_some (object_at d c.args.x.id) ≡ true) (sym c.in_ok-begun.ensures) c.requires.there }

pub stepped-paid-requires : goal.stepped-paid-requires
stepped-paid-requires c =
    let put = c.in_ok-put.ensures ∙ ap (λ d. edited d c.args.x.id (λ _. c.args.x)) c.in_ok-begun.ensures in
    let empty = c.in_ok-empty.ensures ∙ ap (λ d. without_content d c.args.x.id) put in
    record {
      step = subst (λ d. d.step + 1 < 2 ^ 64) (sym empty) c.requires.step;
      cost = subst (λ d. d.cost + c.args.cost < 2 ^ 64) (sym empty) c.requires.cost;
    }

is_cleared : (c : In_ok-noted) → c.in_ok-noted.noted ≡ cleared c.args.state.now c.args.x c.args.cost
is_cleared c =
    let put = c.in_ok-put.ensures ∙ ap (λ d. edited d c.args.x.id (λ _. c.args.x)) c.in_ok-begun.ensures in
    let empty = c.in_ok-empty.ensures ∙ ap (λ d. without_content d c.args.x.id) put in
    let paid = c.stepped-paid.ensures ∙ ap (λ d. stepped d c.args.cost) empty in
    c.in_ok-noted.ensures ∙ (λ i. noted (paid i) Updated c.args.x.id c.args.x.modified_at (c.new.ensures i))

pub seal-requires : goal.seal-requires
seal-requires c = record { well = subst IsWellFormed (sym (is_cleared c)) c.requires.well }

pub returns : goal.returns
returns c =
    let put = c.in_ok-put.ensures ∙ ap (λ d. edited d c.args.x.id (λ _. c.args.x)) c.in_ok-begun.ensures in
    let empty = c.in_ok-empty.ensures ∙ ap (λ d. without_content d c.args.x.id) put in
    let paid = c.stepped-paid.ensures ∙ ap (λ d. stepped d c.args.cost) empty in
    c.seal.ensures ∙ (c.in_ok-noted.ensures ∙ (λ i. noted (paid i) Updated c.args.x.id c.args.x.modified_at (c.new.ensures i)))
