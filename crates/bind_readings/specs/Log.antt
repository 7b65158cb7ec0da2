-- The arguments of the reading of the change log, judged in their order (CMIS 1.1, section 5.4).
use Rattle.std.specs.Prelude.{false, Ok, codes}
use Rattle.cm_base.specs.Judged.{Judged, ◌>>=◌}
use Rattle.form_args.specs.Single.{flag_of, number_of}
use Rattle.bind_parts.specs.declared.asking.Asking.{Asking}
use Rattle.log_parts.specs.declared.readings.ReadChanges.{ReadChanges}

-- a token is an event's number in decimal; without one all events are asked for, and 100 of them where nothing is said
abbrev pub changes_of : Asking → Judged ReadChanges
changes_of asking = do
  succinct ← flag_of asking.form.pairs (codes "succinct") false
  token ← number_of asking.form.pairs (codes "changeLogToken") 0
  most ← number_of asking.form.pairs (codes "maxItems") 100
  Ok (record { token = token; max_items = most; succinct = succinct })
