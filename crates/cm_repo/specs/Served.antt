-- The repository as sessions serve it.
use Rattle.bind_read.specs.Calls.{call_of_request}
use Rattle.cm_call.specs.declared.write.Write.{Write}
use Rattle.cm_call.specs.declared.question.Question.{Question}
use Rattle.cmis_spec.specs.Repository.{Repository}
use Rattle.http_caller.specs.Callers.{caller_of}
use Rattle.http_wire.specs.Connections.{closes}
use Rattle.talk.specs.Served.{Kind, wire_of}
use Rattle.cm_repo.specs.ServerMachine.{shown_step, shown_answer}
use Rattle.cm_repo.specs.Requests.{least}

-- its step and its answers as they are sent, its step number, and how requests are read
abbrev pub repository : Kind Repository Write Question
repository = record { next = shown_step; answer = shown_answer; number = λ r. r.step; call = call_of_request; wire = wire_of caller_of least closes }
