-- What is sent of the calls of the repository: the JSON of their replies, at the step that the repository has reached.
use Rattle.std.specs.Prelude.{ℕ, List, Result, Ok}
use Rattle.cm_base.specs.declared.cause.Cause.{Cause}
use Rattle.cm_base.specs.declared.shown.Shown.{Shown}
use Rattle.cm_base.specs.Judged.{Judged, ◌>>=◌}
use Rattle.cm_call.specs.declared.write.Write.{Write}
use Rattle.cm_call.specs.declared.question.Question.{Question}
use Rattle.bind_json.specs.Replies.{shown_reply}
use Rattle.cmis_spec.specs.Repository.{Repository}
use Rattle.desk_model.specs.declared.entry.Entry.{Entry}
use Rattle.cm_repo.specs.Calls.{step_of, answer_of}

-- the step of an entry, and what is sent of its answer at the step after it
abbrev pub shown_step : Repository → Entry Write → Result (Repository × Shown) Cause
shown_step r e = do
  made ← step_of r e
  Ok (made.0, shown_reply made.1 made.0.step)

-- what is sent of a question's answer
abbrev pub shown_answer : Repository → List ℕ → Question → Judged Shown
shown_answer r u q = do
  reply ← answer_of r u q
  Ok (shown_reply reply r.step)
