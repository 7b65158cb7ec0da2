use Rattle.std.proofs.Common.{ap, ◌∙◌, subst, map}
use Rattle.cm_base.specs.declared.cause.Cause.TheVariants as causes
use Rattle.cm_base.specs.Judged.{Meets, find_or}
use Rattle.form_parts.specs.Parts.{disposition}
use Rattle.form_parts.proofs.disposition.params_in.Goals as goal

pub returns : goal.returns
returns c = subst (λ vs. Meets (λ p. p) c.disposition.result (find_or causes.BadBody (disposition vs))) (ap (map (λ v. v.now)) c.deref.ensures.value ∙ c.in_ok-values.ensures) c.disposition.ensures
