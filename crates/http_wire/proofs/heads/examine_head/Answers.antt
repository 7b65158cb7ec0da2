use Rattle.std.proofs.Common.{◌≡◌, ◌∙◌, ◌≤◌, ◌<◌, length, take, ap, sym, arith, ℕ, subst}
use Rattle.std.proofs.lemmas.List.{length-take, take_all}
use Rattle.http_grammar.specs.Limits.{head_limit}
use Rattle.http_grammar.specs.First.{IsOpen, HasNoFuture}
use Rattle.http_wire.proofs.SeenHeads.{head_limit_is, whole_part, none_where_hopeless, none_where_open, none_where_long}
use Rattle.http_wire.proofs.heads.examine_head.Goals as goal

pub examine_part-requires : goal.examine_part-requires
examine_part-requires c = rw c.front.ensures (omega (arith, head_limit_is, length-take 65536 c.args.bytes.now))

pub judge-requires : goal.judge-requires
judge-requires c =
    let e : c.front.result.now ≡ take head_limit c.args.bytes.now = c.front.ensures ∙ ap (λ (n : ℕ). take n c.args.bytes.now) (sym head_limit_is) in
    let x = rw c.in-Ok-Head.field-0-is at c.in-Ok-Head.ensures in
    rw c.deref.ensures.value (whole_part c.args.bytes.now c.front.result.now c.examine_part.new.spans.items c.in-Ok-Head.head e x.0 (x.1, x.2))

pub returns-in-Ok-Hopeless : goal.returns-in-Ok-Hopeless
returns-in-Ok-Hopeless c =
    let e : c.front.result.now ≡ take head_limit c.args.bytes.now = c.front.ensures ∙ ap (λ (n : ℕ). take n c.args.bytes.now) (sym head_limit_is) in
    let x = rw c.in-Ok-Hopeless.field-0-is at c.in-Ok-Hopeless.ensures in
    none_where_hopeless c.args.bytes.now (subst HasNoFuture e x)

pub returns-then-bytes-lt-HEAD_LIMIT : goal.returns-then-bytes-lt-HEAD_LIMIT
returns-then-bytes-lt-HEAD_LIMIT c =
    let few : length c.args.bytes.now < head_limit = omega (arith, head_limit_is) in
    let e : c.front.result.now ≡ c.args.bytes.now = c.front.ensures ∙ take_all 65536 c.args.bytes.now (omega arith) in
    let x = rw c.in-Ok-Open.field-0-is at c.in-Ok-Open.ensures in
    none_where_open c.args.bytes.now few (subst IsOpen e x)

pub returns-else-bytes-lt-HEAD_LIMIT : goal.returns-else-bytes-lt-HEAD_LIMIT
returns-else-bytes-lt-HEAD_LIMIT c =
    let long : head_limit ≤ length c.args.bytes.now = omega (arith, head_limit_is) in
    let e : c.front.result.now ≡ take head_limit c.args.bytes.now = c.front.ensures ∙ ap (λ (n : ℕ). take n c.args.bytes.now) (sym head_limit_is) in
    let x = rw c.in-Ok-Open.field-0-is at c.in-Ok-Open.ensures in
    none_where_long c.args.bytes.now long (subst IsOpen e x)
