use Rattle.std.proofs.Common.{List, ℕ, subst}
use Rattle.std.specs.Prelude.{⊤}
use Rattle.http_wire.specs.Seen.{SeesHead}
use Rattle.http_wire.specs.HeadAnswers.{HeadAnswer}
use Rattle.http_wire.specs.declared.heads.HeadSeen.TheVariants as seen
use Rattle.http_wire.proofs.HeadReading.{bad_answer, sofar, answered, ended, faulted}
use Rattle.http_wire.proofs.head_reader.read_head.Goals as goal

pub returns-in-Ok-Bad-clause-reads : goal.returns-in-Ok-Bad-clause-reads
returns-in-Ok-Bad-clause-reads g c =
    answered _ _ c.look.new.spans.items _ _ _ (sofar c.more.invariant.0)
    (bad_answer ⊥ _ c.in-Ok-Bad.fault (subst (λ (t : List ℕ). SeesHead t c.look.new.spans.items (seen.Bad c.in-Ok-Bad.fault)) c.as_slice.ensures (rw c.in-Ok-Bad.field-0-is at c.in-Ok-Bad.ensures)))

pub returns-in-Ok-false-clause-reads : goal.returns-in-Ok-false-clause-reads
returns-in-Ok-false-clause-reads g c =
    let more = rw c.in-Ok-false.field-0-test at c.in-Ok-false.ensures.more in
    ended _ _ _ c.at_end.new.spans.items _ _ _ c.at_end.result (sofar c.more.invariant.0) more
    (subst (λ (t : List ℕ). HeadAnswer ⊤ ⊥ t c.at_end.new.spans.items c.at_end.result) c.as_slice-in-Ok-false.ensures c.at_end.ensures)

pub returns-in-Err-ReadFault-clause-reads : goal.returns-in-Err-ReadFault-clause-reads
returns-in-Err-ReadFault-clause-reads g c =
    let more = rw c.in-Err-ReadFault.field-0-is at c.in-Err-ReadFault.ensures.more in
    faulted _ _ _ c.at_fault.new.spans.items _ _ _ c.at_fault.result (sofar c.more.invariant.0) more
    (subst (λ (t : List ℕ). HeadAnswer ⊥ ⊤ t c.at_fault.new.spans.items c.at_fault.result) c.as_slice-in-Err-ReadFault.ensures c.at_fault.ensures)
