use Rattle.std.proofs.Common.{sym, ap, ◌∙◌}
use Rattle.cm_base.specs.declared.cause.Cause.TheVariants as causes
use Rattle.cm_base.specs.Judged.{◌>>◌, refuse, first_cause}
use Rattle.wr_rules.specs.Retained.{retained_at}
use Rattle.wr_rules.proofs.Numbers.{kept_numbers}
use Rattle.wr_rules.proofs.retention.judge_all_kept.Goals as goal

pub returns-then-is_one_held : goal.returns-then-is_one_held
returns-then-is_one_held c =
    let rest = first_cause (retained_at c.args.state.now c.args.moment) c.args.numbers.now in
    ap (λ b. refuse causes.Held b >> rest) (sym c.if-is_one_held.true ∙ c.is_one_held.ensures)
    ∙ kept_numbers c.args.state.now c.args.moment c.args.numbers.now

pub returns : goal.returns
returns c =
    let rest = first_cause (retained_at c.args.state.now c.args.moment) c.args.numbers.now in
    c.judge_retained.ensures
    ∙ (ap (λ b. refuse causes.Held b >> rest) (sym c.if-is_one_held.false ∙ c.is_one_held.ensures)
    ∙ kept_numbers c.args.state.now c.args.moment c.args.numbers.now)
