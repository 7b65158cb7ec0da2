use Rattle.std.proofs.Common.{◌<◌, ◌++◌, ◌∷◌, [], All, refl, sym, ap, subst, ◌∙◌, ◌≡◌}
use Rattle.std.specs.Prelude.{IfOk}
use Rattle.cmis_spec.specs.Repository.{Repository}
use Rattle.cm_state.specs.Told.{series_in}
use Rattle.cm_draft.proofs.Others.{other_last}
use Rattle.cm_draft.proofs.draft.Draft.with_series.Goals as goal

pub with_last-requires : goal.with_last-requires
with_last-requires c = record {
  above = subst (λ ls. All (λ y. y.id.0 < c.args.series.id.0) ls) (sym (c.series_of.ensures ∙ ap (λ (r : Repository). r.series) c.parts.ensures)) c.requires.above;
}

pub with_all_series-requires : goal.with_all_series-requires
with_all_series-requires c = record {
  others = λ m o. ap (λ ls. series_in ls m) (c.in-Ok.ensures ∙ ap (λ ls. ls ++ c.args.series ∷ []) (c.series_of.ensures ∙ ap (λ (r : Repository). r.series) c.parts.ensures)) ∙ other_last (λ y. y.id) c.args.self.series c.args.series c.args.series.id m refl o;
}

pub returns-in-Ok : goal.returns-in-Ok
returns-in-Ok c = subst (λ ls. IfOk c.with_all_series.result (λ d. d ≡ record c.args.self { series = ls })) (c.in-Ok.ensures ∙ ap (λ ls. ls ++ c.args.series ∷ []) (c.series_of.ensures ∙ ap (λ (r : Repository). r.series) c.parts.ensures)) c.with_all_series.ensures
