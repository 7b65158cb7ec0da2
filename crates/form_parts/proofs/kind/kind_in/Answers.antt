use Rattle.std.proofs.Common.{sym, ◌∙◌}
use Rattle.form_parts.proofs.KindTexts.{kind_is_text}
use Rattle.form_parts.proofs.kind.kind_in.Goals as goal

pub returns-in_default : goal.returns-in_default
returns-in_default c = absurd (c.in_default.ensures.cases.0 (kind_is_text c.args.value.now (sym c.is_kind.ensures ∙ c.if-not-is_kind.false)))
