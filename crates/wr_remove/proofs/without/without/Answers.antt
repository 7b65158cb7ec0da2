use Rattle.std.proofs.Common.{◌+◌, ◌<◌, ◌^◌, subst, sym, ap, ◌∙◌}
use Rattle.cmis_spec.specs.Repository.{Repository}
use Rattle.cmis_spec.specs.Changes.{stepped}
use Rattle.cmis_spec.specs.Well.{IsWellFormed}
use Rattle.wr_remove.proofs.without.without.Goals as goal

pub stepped-next-requires : goal.stepped-next-requires
stepped-next-requires c = record {
  step = subst (λ (q : Repository). q.step + 1 < 2 ^ 64) (sym c.in_ok-draft.ensures) c.requires.step;
  cost = subst (λ (q : Repository). q.cost + c.args.cost < 2 ^ 64) (sym c.in_ok-draft.ensures) c.requires.cost;
}

pub seal-requires : goal.seal-requires
seal-requires c = record { well = subst IsWellFormed (sym (c.stepped-next.ensures ∙ ap (λ q. stepped q c.args.cost) c.in_ok-draft.ensures)) c.requires.well }

pub returns : goal.returns
returns c = c.seal.ensures ∙ (c.stepped-next.ensures ∙ ap (λ q. stepped q c.args.cost) c.in_ok-draft.ensures)
