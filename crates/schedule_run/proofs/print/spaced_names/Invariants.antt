use Rattle.std.proofs.Common.{◌≡◌, string_bytes, take}
use Rattle.std.specs.List.{flat_map}
use Rattle.schedule_run.specs.Printed.{spaced}
use Rattle.schedule_run.proofs.print.spaced_names.Given as goal

abbrev pub invariant-loop-name : goal.invariant-loop-name
invariant-loop-name l = string_bytes l.text ≡ flat_map spaced (take l.name-index l.names)
