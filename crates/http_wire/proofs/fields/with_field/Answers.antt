use Rattle.std.proofs.Common.{◌++◌, ◌∷◌, [], List, ℕ, sym, subst, Bool}
use Rattle.std.specs.Prelude.{if◌then◌else◌}
use Rattle.httparse.specs.Spans.{header_bytes}
use Rattle.http_wire.specs.Found.{Finds}
use Rattle.http_wire.specs.declared.fields.Found.TheVariants.{Several}
use Rattle.http_wire.proofs.NamedValues.{finds-one_more, IsThere}
use Rattle.http_wire.proofs.fields.with_field.Goals as goal

pub returns-in-One : goal.returns-in-One
returns-in-One c values f =
    let value : List ℕ = (header_bytes c.args.text.now c.args.field.now).1 in
    subst (λ (t : Bool). Finds c.args.text.now (values ++ (if t then value ∷ [] else [])) Several) c.if-not-is_named.ensures
    (finds-one_more c.args.text.now values c.args.found value f (subst IsThere (sym c.in-One.is) tt))

pub returns-in-Several : goal.returns-in-Several
returns-in-Several c values f =
    let value : List ℕ = (header_bytes c.args.text.now c.args.field.now).1 in
    subst (λ (t : Bool). Finds c.args.text.now (values ++ (if t then value ∷ [] else [])) Several) c.if-not-is_named.ensures
    (finds-one_more c.args.text.now values c.args.found value f (subst IsThere (sym c.in-Several.is) tt))
