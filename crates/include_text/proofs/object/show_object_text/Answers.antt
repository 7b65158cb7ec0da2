use Rattle.std.proofs.Common.{sym, subst, ◌∙◌}
use Rattle.cm_base.specs.Judged.{Meets}
use Rattle.include_text.proofs.Alone.{bare_object}
use Rattle.include_text.proofs.object.show_object_text.Goals as goal

pub returns-then-is_bare_object : goal.returns-then-is_bare_object
returns-then-is_bare_object c = subst (Meets (λ y. y) c.object_text.result)
    (bare_object c.args.state.now c.args.user.now c.args.q.now (sym c.is_bare_object.ensures ∙ c.if-is_bare_object.true)) c.object_text.ensures
