use Rattle.std.proofs.Common.{◌≡◌, true, refl, sym, ap, subst, ◌∙◌}
use Rattle.std.specs.Prelude.{IfOk, map, is_some, if◌then◌else◌}
use Rattle.cmis_spec.specs.Repository.{Repository, same}
use Rattle.cm_state.specs.Told.{series_in}
use Rattle.cm_draft.proofs.Others.{other_put}
use Rattle.cm_draft.proofs.draft.Draft.edited_series.Goals as goal

pub with_member-requires : goal.with_member-requires
with_member-requires c = record {
  there = subst (λ ls. is_some (series_in ls c.args.series.id) ≡ true) (sym (c.series_of.ensures ∙ ap (λ (r : Repository). r.series) c.parts.ensures)) c.requires.there;
}

pub with_all_series-requires : goal.with_all_series-requires
with_all_series-requires c = record {
  others = λ m o. ap (λ ls. series_in ls m) (c.in-Ok.ensures ∙ ap (λ ls. map (λ y. if same y.id c.args.series.id then c.args.series else y) ls) (c.series_of.ensures ∙ ap (λ (r : Repository). r.series) c.parts.ensures)) ∙ other_put (λ y. y.id) c.args.series c.args.series.id m refl o c.args.self.series;
}

pub returns-in-Ok : goal.returns-in-Ok
returns-in-Ok c = subst (λ ls. IfOk c.with_all_series.result (λ d. d ≡ record c.args.self { series = ls })) (c.in-Ok.ensures ∙ ap (λ ls. map (λ y. if same y.id c.args.series.id then c.args.series else y) ls) (c.series_of.ensures ∙ ap (λ (r : Repository). r.series) c.parts.ensures)) c.with_all_series.ensures
