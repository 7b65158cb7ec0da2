use Rattle.talk.proofs.reply.read_reply_of.Goals as goal

pub returns-in-Ok-shown_of-clause-turned : goal.returns-in-Ok-shown_of-clause-turned
returns-in-Ok-shown_of-clause-turned g c = λ users head last. rw c.in-Ok-shown_of.ensures.shown (c.in-Ok.ensures.turned users head last)
