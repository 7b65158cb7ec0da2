use Rattle.std.proofs.Common.{sym, subst, ◌∙◌}
use Rattle.cm_base.specs.Judged.{Meets}
use Rattle.include_text.proofs.Alone.{bare_children}
use Rattle.include_text.proofs.children.show_children_text.Goals as goal

pub returns-then-are_bare_children : goal.returns-then-are_bare_children
returns-then-are_bare_children c = subst (Meets (λ y. y) c.children_text.result)
    (bare_children c.args.state.now c.args.user.now c.args.q.now (sym c.are_bare_children.ensures ∙ c.if-are_bare_children.true)) c.children_text.ensures
