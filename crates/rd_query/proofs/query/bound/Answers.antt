use Rattle.std.proofs.Common.{ap, subst, sym}
use Rattle.cm_base.specs.Judged.{Meets, ◌>>=◌}
use Rattle.cm_types.proofs.Exits.{fails_bind}
use Rattle.ql_bind.specs.Binding.{bound_query}
use Rattle.rd_query.specs.Said.{bound_of, said}
use Rattle.rd_query.proofs.query.bound.Goals as goal

pub returns-in-Ok : goal.returns-in-Ok
unfolding bound_of
returns-in-Ok c = subst (Meets (λ x. x) c.bind.result) (sym (ap (λ j. j >>= bound_query c.args.types.now) c.in-Ok.ensures)) c.bind.ensures

pub returns-in-Err : goal.returns-in-Err
unfolding bound_of
returns-in-Err c = fails_bind c.in-Err.fail (said c.args.statement.now) (bound_query c.args.types.now) c.in-Err.ensures
