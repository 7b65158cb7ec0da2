use Rattle.std.proofs.Common.{sym, ap, ◌∙◌}
use Rattle.cmis_spec.specs.Repository.{Repository}
use Rattle.cm_state.specs.Told.{series_in, entries_of}
use Rattle.cm_draft.proofs.told.with_all_series.Goals as goal

pub retold_by_series-requires : goal.retold_by_series-requires
retold_by_series-requires c = record { others = λ m o. c.requires.others m o ∙ ap (λ (r : Repository). series_in r.series m) (sym c.parts.ensures) }

pub put_series-requires : goal.put_series-requires
put_series-requires c = record { told = c.in-Ok.ensures ∙ ap (λ (r : Repository). entries_of (record r { series = c.args.series })) c.parts.ensures }
