use Rattle.std.proofs.Common.{◌≤◌, length, ap, Err, ℕ, subst}
use Rattle.httparse.specs.Spans.{SectionExceeds}
use Rattle.http_grammar.proofs.Heads.{never_too_many_trailers}
use Rattle.http_wire.proofs.PieceSeeing.{whole_trailers, open_trailers, long_trailers, hopeless_trailers, part_short}
use Rattle.http_wire.proofs.pieces.examine_trailers.Goals as goal

pub returns-in-Ok-Complete : goal.returns-in-Ok-Complete
returns-in-Ok-Complete c =
    let f = rw c.in-Ok-Complete.field-0-is at c.in-Ok-Complete.ensures in
    let (fields, last, at) = f.complete in
    whole_trailers c.args.text.now c.front.result.now c.parse_headers.new.headers c.in-Ok-Complete.len _ fields last c.front.ensures at

pub returns-in-Ok-Partial : goal.returns-in-Ok-Partial
returns-in-Ok-Partial c =
    let f = rw c.in-Ok-Partial.field-0-is at c.in-Ok-Partial.ensures in
    open_trailers c.args.text.now c.front.result.now c.front.ensures c.if-text-lt-TRAILER_LIMIT.true f.partial f.unfinished

pub returns-in-Ok-Partial-2 : goal.returns-in-Ok-Partial-2
returns-in-Ok-Partial-2 c =
    let f = rw c.in-Ok-Partial.field-0-is at c.in-Ok-Partial.ensures in
    long_trailers c.args.text.now c.front.result.now c.front.ensures c.if-text-lt-TRAILER_LIMIT.false f.partial

pub returns-in-Err : goal.returns-in-Err
returns-in-Err c =
    let short : length c.front.result.now ≤ 65536 = part_short c.args.text.now c.front.result.now c.front.ensures in
    hopeless_trailers c.args.text.now c.front.result.now c.front.ensures
    (c.in-Err.ensures.invalid (λ s. never_too_many_trailers c.front.result.now short
    (subst (λ (n : ℕ). SectionExceeds n c.front.result.now) c.requires (c.in-Err.ensures.too_many (ap Err s)))))
