use Rattle.std.proofs.Common.{ap, ◌∙◌, ◌≡◌, subst}
use Rattle.std.specs.Prelude.{IfOk, filter, not}
use Rattle.cmis_spec.specs.Repository.{Repository, same}
use Rattle.cm_state.specs.Told.{series_in}
use Rattle.cm_draft.proofs.Others.{other_less}
use Rattle.cm_draft.proofs.draft.Draft.without_series.Goals as goal

pub with_all_series-requires : goal.with_all_series-requires
with_all_series-requires c = record {
  others = λ m o. ap (λ ls. series_in ls m) (c.in-Ok.ensures ∙ ap (λ ls. filter (λ y. not (same y.id c.args.n)) ls) (c.series_of.ensures ∙ ap (λ (r : Repository). r.series) c.parts.ensures)) ∙ other_less (λ y. y.id) c.args.n m o c.args.self.series;
}

pub returns-in-Ok : goal.returns-in-Ok
returns-in-Ok c = subst (λ ls. IfOk c.with_all_series.result (λ d. d ≡ record c.args.self { series = ls })) (c.in-Ok.ensures ∙ ap (λ ls. filter (λ y. not (same y.id c.args.n)) ls) (c.series_of.ensures ∙ ap (λ (r : Repository). r.series) c.parts.ensures)) c.with_all_series.ensures
