use Rattle.std.proofs.Common.{◌∙◌, sym}
use Rattle.form_parts.proofs.Fields.{Walk-empty, Walk-step, Walk-fails, is_empty_is, not_empty}
use Rattle.form_parts.proofs.head.read_head.Goals as goal

pub returns-then-is_empty-clause-value : goal.returns-then-is_empty-clause-value
returns-then-is_empty-clause-value c =
    let some = not_empty c.loop-rest.rest.now (sym c.is_empty.ensures ∙ c.loop-rest-test.true) in
    let nil = is_empty_is c.in-Some.line.text.now (sym c.is_empty-in-loop-rest.ensures ∙ c.if-is_empty.true) in
    let empty = Walk-empty c.args.text.now c.loop-rest.rest.now c.in-Some.line.text.now c.in-Some.line.rest.now _ c.loop-rest.invariant (sym c.in-Some.ensures.value) c.in-Some.ensures.shorter nil some in
    sym empty.0

pub returns-then-is_empty-clause-last : goal.returns-then-is_empty-clause-last
returns-then-is_empty-clause-last c =
    let some = not_empty c.loop-rest.rest.now (sym c.is_empty.ensures ∙ c.loop-rest-test.true) in
    let nil = is_empty_is c.in-Some.line.text.now (sym c.is_empty-in-loop-rest.ensures ∙ c.if-is_empty.true) in
    let empty = Walk-empty c.args.text.now c.loop-rest.rest.now c.in-Some.line.text.now c.in-Some.line.rest.now _ c.loop-rest.invariant (sym c.in-Some.ensures.value) c.in-Some.ensures.shorter nil some in
    empty.1.same

pub returns-in_default-field_of-clause-value : goal.returns-in_default-field_of-clause-value
returns-in_default-field_of-clause-value c =
    let some = not_empty c.loop-rest.rest.now (sym c.is_empty.ensures ∙ c.loop-rest-test.true) in
    let ne = not_empty c.in-Some.line.text.now (sym c.is_empty-in-loop-rest.ensures ∙ c.if-is_empty.false) in
    sym (Walk-fails c.args.text.now c.loop-rest.rest.now c.in-Some.line.text.now c.in-Some.line.rest.now _ c.loop-rest.invariant some (sym c.in-Some.ensures.value) ne (sym c.in_default-field_of.ensures))

pub loop-rest-preserved : goal.loop-rest-preserved
loop-rest-preserved c =
    let some = not_empty c.loop-rest.rest.now (sym c.is_empty.ensures ∙ c.loop-rest-test.true) in
    let ne = not_empty c.in-Some.line.text.now (sym c.is_empty-in-loop-rest.ensures ∙ c.if-is_empty.false) in
    rw c.in_ok-push.ensures.items (Walk-step c.args.text.now c.loop-rest.rest.now c.in-Some.line.text.now c.in-Some.line.rest.now _ c.in-Some-field_of.field c.loop-rest.invariant (sym c.in-Some.ensures.value) c.in-Some.ensures.shorter ne some (sym c.in-Some-field_of.ensures))
