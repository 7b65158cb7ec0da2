use Rattle.std.proofs.Common.{refl}
use Rattle.talk.proofs.step.answer.Goals as goal

pub returns-in-Err-Unkept-clause-answers : goal.returns-in-Err-Unkept-clause-answers
returns-in-Err-Unkept-clause-answers g c = let told = rw c.in-Err-Unkept.field-0-is at c.in-Err-Unkept.ensures.unkept in (told _, refl)
