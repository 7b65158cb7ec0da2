use Rattle.std.proofs.Common.{sym, ap, ◌∙◌}
use Rattle.std.specs.Prelude.{is_none}
use Rattle.cm_base.specs.declared.cause.Cause.TheVariants as causes
use Rattle.cm_base.specs.Judged.{refuse}
use Rattle.cm_types.specs.Types.{type_in}
use Rattle.wr_rules.proofs.Causes.{first_same}
use Rattle.wr_rules.proofs.kinds.judge_types.Goals as goal

pub returns-then-has_unknown : goal.returns-then-has_unknown
returns-then-has_unknown c =
    sym (first_same causes.TypeNotFound (λ id. is_none (type_in c.args.types.now id)) c.args.ids.now
    ∙ ap (refuse causes.TypeNotFound) (sym c.has_unknown.ensures ∙ c.if-has_unknown.true))

pub returns : goal.returns
returns c =
    sym (first_same causes.TypeNotFound (λ id. is_none (type_in c.args.types.now id)) c.args.ids.now
    ∙ ap (refuse causes.TypeNotFound) (sym c.has_unknown.ensures ∙ c.if-has_unknown.false))
