use Rattle.std.proofs.Common.{◌≡◌, ◌∙◌, true, sym}
use Rattle.std.proofs.lemmas.Bool.{false≢true}
use Rattle.http_grammar.specs.Request.{head_of}
use Rattle.http_wire.proofs.RequestReading.{sized_within, no_request, whole_answer, broken_answer, body_wants, put_together}
use Rattle.http_wire.proofs.reader.read_into.Goals as goal
use Rattle.http_wire.proofs.reader.read_into.Goals.{else-framed-via-then-framed+else-not-answered, else-framed-via-else-framed}

pub returns-in-Err-clause-reads : goal.returns-in-Err-clause-reads
returns-in-Err-clause-reads g c = no_request _ _ _ c.read_head.new.spans.items _ _ c.in-Err.stop c.in-Err.ensures.reads

pub read_body-requires-clause-short : goal.read_body-requires-clause-short
read_body-requires-clause-short g c n e =
    let x = c.in-Ok.ensures in
    sized_within (head_of x.text) c.in-Ok-Some.framed.framing n x.framing_is e

pub returns-in-Ok-read_body-clause-reads : goal.returns-in-Ok-read_body-clause-reads
returns-in-Ok-read_body-clause-reads g c =
    let r = rw c.in-Ok-Some.field-0-is at c.in-Ok-Some.ensures.reads in
    let due : c.in-Ok-Some.framed.expects ≡ true → c.args.answered.now ≡ true = λ e.
    elim c.else-framed.branch [
      | else-framed-via-then-framed+else-not-answered w ↦ w.if-not-answered.false
      | else-framed-via-else-framed w ↦ absurd (false≢true (sym w.if-framed.false ∙ e))
    ] in
    let b = rw c.drop_front.ensures at c.in-Ok-read_body.ensures.reads in
    put_together _ _ _ _ _ c.with_body.result c.with_body.ensures
    (whole_answer _ _ _ _ c.read_head.new.spans.items _ _ _ c.in-Ok-Some.framed c.in-Ok.head r c.in-Ok.ensures due b)
    (body_wants _ _ _ _ _ c.read_head.new.spans.items _ _ _ c.in-Ok-Some.framed r b)

pub returns-in-Err-read_body-clause-reads : goal.returns-in-Err-read_body-clause-reads
returns-in-Err-read_body-clause-reads g c =
    let r = rw c.in-Ok-Some.field-0-is at c.in-Ok-Some.ensures.reads in
    let due : c.in-Ok-Some.framed.expects ≡ true → c.args.answered.now ≡ true = λ e.
    elim c.else-framed.branch [
      | else-framed-via-then-framed+else-not-answered w ↦ w.if-not-answered.false
      | else-framed-via-else-framed w ↦ absurd (false≢true (sym w.if-framed.false ∙ e))
    ] in
    let b = rw c.drop_front.ensures at c.in-Err-read_body.ensures.reads in
    broken_answer _ _ _ _ _ c.read_head.new.spans.items _ _ _ c.in-Ok-Some.framed c.in-Ok.head c.in-Err-read_body.stop r c.in-Ok.ensures due b
