use Rattle.std.proofs.Common.{◌≡◌, Err, rules, ap}
use Rattle.std.proofs.lemmas.Result.{err_from_is_err_and}
use Rattle.request_target.specs.declared.path.PathStop.TheVariants.{Bad}
use Rattle.request_target.proofs.Pieces.{Walked-step, Walked-bad, Walked-end}
use Rattle.request_target.proofs.path.path.Goals as goal

pub returns-in_err-add-clause-bad : goal.returns-in_err-add-clause-bad
returns-in_err-add-clause-bad c is all =
    let p = err_from_is_err_and c.from_residual.result c.from_residual.ensures.1 in
    let bad : c.in_err-add.field-0.0 ≡ Bad = cc in
    Walked-bad c.args.path.now c.loop-rest.names.items c.loop-rest.rest.now c.cut.result.0.now c.cut.result.1.now c.loop-rest.invariant c.cut.ensures.before c.cut.ensures.after (c.in_err-add.ensures.bad (ap Err bad)) all

pub loop-rest-preserved : goal.loop-rest-preserved
loop-rest-preserved c = Walked-step c.args.path.now c.loop-rest.names.items _ c.loop-rest.rest.now c.cut.result.0.now _ c.loop-rest.invariant c.cut.ensures.before c.cut.ensures.after c.in_ok-add.ensures.ok

pub returns-clause-ok : goal.returns-clause-ok
returns-clause-ok c = Walked-end c.args.path.now c.loop-rest.names.items c.loop-rest.rest.now c.loop-rest.invariant (search rules)
