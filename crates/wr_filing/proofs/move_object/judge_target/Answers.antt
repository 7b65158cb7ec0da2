use Rattle.std.proofs.Common.{sym, ap, subst, ◌∙◌}
use Rattle.cm_base.specs.declared.cause.Cause.TheVariants as causes
use Rattle.cm_base.specs.Judged.{Meets, ◌>>◌, refuse}
use Rattle.cmis_spec.specs.Repository.{entry_of, is_filed}
use Rattle.wr_filing.specs.MoveObject.{judge_place}
use Rattle.wr_filing.proofs.move_object.judge_target.Goals as goal

pub returns : goal.returns
returns c =
    let r = c.args.state.now in
    let x = c.args.x.now in
    let t = c.args.target.now in
    let free = ap (λ n. is_filed r t.id n) (sym c.entry_of.ensures) ∙ sym c.if-is_filed.ensures in
    subst (λ j. Meets {X = Unit {0}} {Y = Unit {0}} (λ x. x) c.judge_place.result j)
    (ap (λ n. judge_place r n t.id) c.entry_of-2.ensures
    ∙ sym (λ i. refuse causes.AlreadyFiled (free i) >> (refuse causes.ChildType (sym c.if-bars_child.ensures i) >> judge_place r (entry_of x) t.id)))
    c.judge_place.ensures
