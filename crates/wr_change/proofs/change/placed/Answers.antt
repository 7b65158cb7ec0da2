use Rattle.std.proofs.Common.{◌≡◌, true, sym, ap, subst, ◌∙◌}
use Rattle.std.specs.Prelude.{is_some}
use Rattle.cmis_spec.specs.Repository.{object_at}
use Rattle.cmis_spec.specs.Well.{IsWellFormed}
use Rattle.wr_rules.specs.Documents.{name_after}
use Rattle.wr_change.specs.UpdateParts.{series_renamed}
use Rattle.wr_change.specs.Update.{placed}
use Rattle.wr_change.proofs.Put.{series_there, put_is}
use Rattle.wr_change.proofs.change.placed.Goals as goal
use Rattle.wr_change.proofs.change.placed.Goals.{In_ok-series, In_ok-draft}

its_series : (c : In_ok-series) → c.in_ok-series.series ≡ series_renamed c.args.state.now c.args.x.now (name_after c.args.state.now c.args.x.now c.args.call.now.properties)
its_series c =
    let r = c.args.state.now in
    let x = c.args.x.now in
    c.in_ok-series.ensures ∙ (ap (series_renamed r x) c.in_ok-name.ensures ∙ ap (λ gs. series_renamed r x (name_after r x gs)) c.as_slice.ensures)

pub put_in-requires : goal.put_in-requires
put_in-requires c =
    let r = c.args.state.now in
    let x = c.args.x.now in
    record {
      object = subst (λ n. is_some (object_at r n) ≡ true) (sym c.requires.id) (ap is_some c.requires.there);
      series = series_there r x (name_after r x c.args.call.now.properties) c.in_ok-series.series (its_series c);
    }

is_placed : (c : In_ok-draft) → c.in_ok-draft.draft ≡ placed c.args.state.now c.args.call.now c.args.x.now c.args.new
is_placed c =
    let r = c.args.state.now in
    let x = c.args.x.now in
    c.in_ok-draft.ensures
    ∙ put_is r c.args.call.now x c.args.new c.in_ok-series.series c.step-step.ensures.well c.requires.there c.requires.id
    (c.in_ok-series.ensures ∙ (ap (series_renamed r x) c.in_ok-name.ensures ∙ ap (λ gs. series_renamed r x (name_after r x gs)) c.as_slice.ensures))

pub seal-requires : goal.seal-requires
seal-requires c = record { well = subst IsWellFormed (sym (is_placed c)) c.requires.well }

pub returns : goal.returns
returns c =
    let r = c.args.state.now in
    let x = c.args.x.now in
    c.seal.ensures ∙ (c.in_ok-draft.ensures
    ∙ put_is r c.args.call.now x c.args.new c.in_ok-series.series c.step-step.ensures.well c.requires.there c.requires.id
    (c.in_ok-series.ensures ∙ (ap (series_renamed r x) c.in_ok-name.ensures ∙ ap (λ gs. series_renamed r x (name_after r x gs)) c.as_slice.ensures)))
