-- What a run of the program in one thread does, by its words.
use Rattle.std.specs.Prelude.{ℕ, List, Option}
use Rattle.cm_base.specs.declared.cause.Cause.{Cause}
use Rattle.cm_call.specs.declared.question.Question.{Question}
use Rattle.cm_call.specs.declared.reply.Reply.{Reply}
use Rattle.cm_call.specs.declared.write.Write.{Write}
use Rattle.cm_repo.specs.Calls.{step_of, answer_of}
use Rattle.cm_repo.specs.Served.{repository}
use Rattle.cmis_runs.specs.Once as runs
use Rattle.cmis_spec.specs.Repository.{Repository}
use Rattle.desk_core.specs.Interleaving.{Rules}
use Rattle.outside.specs.Clocks.{Words}
use Rattle.outside.specs.Outside.{SourceTold, SinkTold}
use Rattle.cmis_app.specs.Scripting.{script_calls}

-- what the repository makes of writes and questions
abbrev pub plain : Rules Repository Write Question Reply Cause
plain = record { next = step_of; answer = answer_of; number = λ r. r.step }

-- the word of a schedule runs the script that the source gives; other words load, or serve one session
abbrev pub RunsOnce : List (List ℕ) → Option Words → SourceTold → SinkTold → SourceTold → SinkTold → ℕ → Type 0
RunsOnce words clock before empty after full status = runs.RunsOnce repository plain script_calls words clock before empty after full status
