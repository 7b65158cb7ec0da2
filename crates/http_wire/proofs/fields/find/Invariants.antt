use Rattle.std.proofs.Common.{take}
use Rattle.http_grammar.specs.Fields.{values_named}
use Rattle.http_wire.specs.Found.{Finds, fields_at}
use Rattle.http_wire.proofs.fields.find.Given as goal

abbrev pub invariant-loop-field : goal.invariant-loop-field
invariant-loop-field l = Finds l.text (values_named l.name (fields_at l.text (take l.field-index l.fields))) l.found
