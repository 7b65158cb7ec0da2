use Rattle.std.proofs.Common.{ap, ◌∙◌, subst, map}
use Rattle.cm_base.specs.Judged.{Meets}
use Rattle.form_parts.specs.Kinds.{kind_by}
use Rattle.form_parts.proofs.kind.kind_of.Goals as goal

pub returns : goal.returns
returns c = subst (λ vs. Meets (λ k. k) c.kind_by.result (kind_by vs)) (ap (map (λ v. v.now)) c.deref.ensures.value ∙ c.in_ok-values.ensures) c.kind_by.ensures
