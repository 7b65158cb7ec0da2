use Rattle.std.proofs.Common.{◌≡◌, map, take}
use Rattle.http_grammar.specs.Fields.{values_named}
use Rattle.form_parts.proofs.field.values_named.Given as goal

abbrev pub invariant-loop-field : goal.invariant-loop-field
invariant-loop-field l = map (λ x. x.now) l.values.items ≡ values_named l.name (take l.field-index l.fields)
