-- From which step on a request asks the repository.
use Rattle.std.specs.Prelude.{ℕ}
use Rattle.std.specs.Result.{result_unwrap_or}
use Rattle.http_caller.specs.Steps.{least_of}
use Rattle.http_grammar.specs.Request.{Head}

-- the least step number that a head asks for; a field that names none asks for 0, and is a cause of the arguments
abbrev pub least : Head → ℕ
least head = result_unwrap_or (least_of head) 0
