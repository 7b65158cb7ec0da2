use Rattle.std.proofs.Common.{sym, subst, ◌∙◌}
use Rattle.cm_base.specs.Judged.{Meets}
use Rattle.include_text.proofs.Alone.{bare_included}
use Rattle.include_text.proofs.object.included_object_text.Goals as goal

pub returns-then-is_bare : goal.returns-then-is_bare
returns-then-is_bare c = subst (Meets (λ y. y) c.object_text.result)
    (bare_included c.args.view c.args.place.now (sym c.is_bare.ensures ∙ c.if-is_bare.true)) c.object_text.ensures
