use Rattle.talk.proofs.Turns.{late-turn, said-turn, denied-turn, looked-stays}
use Rattle.talk.proofs.turn.read_turn.Goals as goal

pub returns-then-number-least-clause-turned : goal.returns-then-number-least-clause-turned
returns-then-number-least-clause-turned g c = λ users head last.
    late-turn _ users head last _ _ _ _ _ c.in-Ok.version _ _ _ c.in-Ok.ensures.looked c.number-number.ensures c.if-number-least.true c.in-Ok.ensures.words

pub returns-in-Ok-answer-clause-turned : goal.returns-in-Ok-answer-clause-turned
returns-in-Ok-answer-clause-turned g c = λ users head last.
    said-turn _ users head last _ _ _ _ _ c.in-Ok.version _ _ _ _ g.met.D.Kind.Served.answer_has_number c.in-Ok.ensures.looked c.number-number.ensures c.if-number-least.false c.in-Ok-answer.ensures c.in-Ok.ensures.words

pub returns-in-Err-Refused-clause-turned : goal.returns-in-Err-Refused-clause-turned
returns-in-Err-Refused-clause-turned g c = λ users head last.
    let told = rw c.in-Err-Refused.field-0-is at c.in-Err-Refused.ensures in
    denied-turn _ users head last _ _ _ _ _ c.in-Ok.version _ _ _ _ c.in-Ok.ensures.looked c.number-number.ensures c.if-number-least.false told c.in-Ok.ensures.words

pub returns-then-number-least-clause-stays : goal.returns-then-number-least-clause-stays
returns-then-number-least-clause-stays g c = looked-stays _ _ c.in-Ok.version _ _ c.in-Ok.ensures.looked c.in-Ok.ensures.words

pub returns-in-Ok-answer-clause-stays : goal.returns-in-Ok-answer-clause-stays
returns-in-Ok-answer-clause-stays g c = looked-stays _ _ c.in-Ok.version _ _ c.in-Ok.ensures.looked c.in-Ok.ensures.words

pub returns-in-Err-Refused-clause-stays : goal.returns-in-Err-Refused-clause-stays
returns-in-Err-Refused-clause-stays g c = looked-stays _ _ c.in-Ok.version _ _ c.in-Ok.ensures.looked c.in-Ok.ensures.words
