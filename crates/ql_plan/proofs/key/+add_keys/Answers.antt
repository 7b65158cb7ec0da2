use Rattle.std.proofs.Common.{sym, subst}
use Rattle.std.specs.Prelude.{All}
use Rattle.ql_plan.specs.Candidates.{keys_of}
use Rattle.ql_plan.specs.Planned.{IsKeyOf}
use Rattle.ql_plan.proofs.Holding.{and_holds, compare_holds, always, weaker}
use Rattle.ql_plan.proofs.key.+add_keys.Goals as goal

pub returns-in_ok-add_keys-in-And-clause-hold : goal.returns-in_ok-add_keys-in-And-clause-hold
returns-in_ok-add_keys-in-And-clause-hold t c =
    let left = subst (λ x. All (IsKeyOf x) (keys_of x)) c.get.ensures c.in_ok-add_keys-in-And.ensures.hold in
    weaker c.add_keys-in-And.result
    (λ h. subst (λ x. All (IsKeyOf x) (keys_of x)) (sym c.in-And.is) (and_holds c.in-And.a c.in-And.b left (subst (λ x. All (IsKeyOf x) (keys_of x)) c.get-in-And.ensures h)))
    c.add_keys-in-And.ensures.hold

pub returns-in-Compare-clause-hold : goal.returns-in-Compare-clause-hold
returns-in-Compare-clause-hold t c =
    always c.add_compare.result (subst (λ x. All (IsKeyOf x) (keys_of x)) (sym c.in-Compare.is) (compare_holds c.in-Compare.id c.in-Compare.by c.in-Compare.scalar))
