use Rattle.std.proofs.Common.{sym, ap, ◌∙◌}
use Rattle.std.specs.Prelude.{is_none}
use Rattle.cm_base.specs.declared.cause.Cause.TheVariants as causes
use Rattle.cm_base.specs.Judged.{refuse}
use Rattle.cmis_spec.specs.Access.{read_named}
use Rattle.wr_rules.proofs.Causes.{first_same}
use Rattle.wr_rules.proofs.policies.judge_read.Goals as goal

pub returns-then-has_unread : goal.returns-then-has_unread
returns-then-has_unread c =
    sym (first_same causes.NotFound (λ id. is_none (read_named c.args.state.now c.args.user.now id)) c.args.ids.now
    ∙ ap (refuse causes.NotFound) (sym c.has_unread.ensures ∙ c.if-has_unread.true))

pub returns : goal.returns
returns c =
    sym (first_same causes.NotFound (λ id. is_none (read_named c.args.state.now c.args.user.now id)) c.args.ids.now
    ∙ ap (refuse causes.NotFound) (sym c.has_unread.ensures ∙ c.if-has_unread.false))
