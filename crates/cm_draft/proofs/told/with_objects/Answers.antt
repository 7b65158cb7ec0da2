use Rattle.std.proofs.Common.{sym, ap, ◌∙◌}
use Rattle.cmis_spec.specs.Repository.{Repository}
use Rattle.cm_state.specs.Told.{object_in, entries_of}
use Rattle.cm_draft.proofs.told.with_objects.Goals as goal

pub retold_by_objects-requires : goal.retold_by_objects-requires
retold_by_objects-requires c = record { others = λ m o. c.requires.others m o ∙ ap (λ (r : Repository). object_in r.objects m) (sym c.parts.ensures) }

pub put_objects-requires : goal.put_objects-requires
put_objects-requires c = record { told = c.in-Ok.ensures ∙ ap (λ (r : Repository). entries_of (record r { objects = c.args.objects })) c.parts.ensures }
