use Rattle.std.proofs.Common.{List, ℕ, subst}
use Rattle.http_wire.specs.Found.{Finds}
use Rattle.http_wire.proofs.NamedValues.{values_named-none, values_at-more}
use Rattle.http_wire.proofs.fields.find.Goals as goal

pub loop-field-init : goal.loop-field-init
loop-field-init c = values_named-none c.args.name.now

pub loop-field-preserved : goal.loop-field-preserved
loop-field-preserved c =
    subst (λ (values : List (List ℕ)). Finds c.args.text.now values c.with_field-found.result)
    (values_at-more c.args.name.now c.args.text.now c.args.fields.now c.loop-field.field-index _ c.loop-field-test.true)
    (c.with_field-found.ensures _ c.loop-field.invariant)
