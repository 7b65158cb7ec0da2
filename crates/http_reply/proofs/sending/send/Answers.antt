use Rattle.std.proofs.Common.{List, ℕ, take, drop, arith, sym, refl, subst, ◌∙◌, Ok}
use Rattle.outside.specs.declared.traits.Failed.{Failed}
use Rattle.std.proofs.lemmas.List.{take-append-drop, length-drop}
use Rattle.outside.specs.Outside.{Writes}
use Rattle.outside.proofs.Known.{Took-none, wrote_more, wrote_no_more}
use Rattle.http_reply.proofs.Sends.{offers-none, offers-more}
use Rattle.http_reply.proofs.sending.send.Goals as goal

pub returns-in-Err-clause-front : goal.returns-in-Err-clause-front
returns-in-Err-clause-front g c = (
  take c.loop-done.done c.args.piece.now,
  drop c.loop-done.done c.args.piece.now,
  sym (take-append-drop c.loop-done.done c.args.piece.now),
  wrote_no_more _ _ _ _ c.loop-done.invariant.1 c.in-Err.ensures.cause.later c.in-Err.ensures.bytes,
)

pub loop-done-preserved : goal.loop-done-preserved
loop-done-preserved g c =
    let w : Writes {E = Failed} (g.K.Sink.told c.loop-done.sink) (g.K.Sink.told c.write.new.self) (Ok c.in-Ok.count) (drop c.loop-done.done c.args.piece.now) =
    subst (λ (t : List ℕ). Writes {E = Failed} (g.K.Sink.told c.loop-done.sink) (g.K.Sink.told c.write.new.self) (Ok c.in-Ok.count) t) c.tail.ensures c.in-Ok.ensures.bytes in (
      omega (arith, length-drop c.loop-done.done c.args.piece.now, w.1),
      wrote_more _ _ _ c.args.piece.now c.loop-done.done c.in-Ok.count c.loop-done.invariant.1 c.in-Ok.ensures.cause.later w.2,
      c.in-Ok.ensures.aside ∙ c.loop-done.invariant.2,
      offers-more _ _ _ c.args.piece.now _ c.loop-done.invariant.3 c.in-Ok.ensures.offered (record { place = c.loop-done.done; inside = omega arith; piece_is = c.tail.ensures }),
    )

pub returns-in-Err-clause-pieces : goal.returns-in-Err-clause-pieces
returns-in-Err-clause-pieces g c =
    offers-more _ _ _ c.args.piece.now _ c.loop-done.invariant.3 c.in-Err.ensures.offered (record { place = c.loop-done.done; inside = omega arith; piece_is = c.tail.ensures })

pub loop-done-init : goal.loop-done-init
loop-done-init g c = (omega arith, Took-none _ _ refl (omega arith), refl, offers-none _ _)
