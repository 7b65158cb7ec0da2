use Rattle.std.proofs.Common.{◌≡◌, drop}
use Rattle.http_grammar.specs.Fields.{values_named}
use Rattle.bind_form.specs.Forms.{first_item}
use Rattle.bind_form.proofs.fields.first_value.Given as goal

abbrev pub invariant-loop-i : goal.invariant-loop-i
invariant-loop-i l = first_item (values_named l.name (drop l.i l.head.fields)) ≡ first_item (values_named l.name l.head.fields)
