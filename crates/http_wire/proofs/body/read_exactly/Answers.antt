use Rattle.std.proofs.Common.{◌∙◌, arith}
use Rattle.outside.proofs.Known.{Gave-none}
use Rattle.http_wire.proofs.Ranges.{some_gave}
use Rattle.http_wire.proofs.BodyReading.{ended_read, came, cut_body, faulted_body, more_came}
use Rattle.http_wire.proofs.body.read_exactly.Goals as goal

pub returns-in-Ok-eq0-clause-reads : goal.returns-in-Ok-eq0-clause-reads
returns-in-Ok-eq0-clause-reads g c =
    let e = ended_read _ _ _ _ c.in-Ok-eq0.ensures.bytes c.in-Ok-eq0.field-0-test c.in-Ok-eq0.ensures.cause.later in
    cut_body _ _ _ c.more.filled c.args.count _ _ _ (came c.more.invariant.0) c.more.invariant.2 (omega arith) e.0 e.1

pub more-preserved : goal.more-preserved
more-preserved g c = (
  more_came _ _ _ _ c.more.filled c.in-Ok-read_at.more _ _ _ (came c.more.invariant.0) c.in-Ok.ensures.front c.in-Ok-read_at.ensures.front
      (some_gave _ _ _ _ c.in-Ok-read_at.ensures.bytes c.in-Ok-read_at.ensures.cause.later),
  c.in-Ok-read_at.ensures.aside ∙ c.more.invariant.1,
  c.in-Ok-read_at.ensures.bound,
  omega (arith, c.in-Ok-read_at.ensures.len, c.in-Ok.ensures.within),
)

pub returns-in-Err-clause-reads : goal.returns-in-Err-clause-reads
returns-in-Err-clause-reads g c =
    faulted_body _ _ _ c.more.filled c.args.count _ _ _ (came c.more.invariant.0) c.more.invariant.2 (omega arith)
    (Gave-none _ _ c.in-Err.ensures.bytes.0 c.in-Err.ensures.bytes.1 c.in-Err.ensures.cause.later) c.in-Err.ensures.cause.failed
