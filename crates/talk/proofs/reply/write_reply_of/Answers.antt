use Rattle.talk.proofs.Turns.{of-refusal}
use Rattle.talk.proofs.reply.write_reply_of.Goals as goal

pub returns-in-Ok-shown_of-clause-turned : goal.returns-in-Ok-shown_of-clause-turned
returns-in-Ok-shown_of-clause-turned g c = λ users head last. rw c.in-Ok-shown_of.ensures.shown (c.in-Ok.ensures.turned users head last)

pub returns-in-Err-shown_of-clause-starved : goal.returns-in-Err-shown_of-clause-starved
returns-in-Err-shown_of-clause-starved g c = of-refusal _ _ c.in-Err-shown_of.ensures.refusal c.in-Ok.ensures.refusal
