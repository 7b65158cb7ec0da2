-- What a run of the program does that serves many connections.
use Rattle.std.specs.Prelude.{List, Option}
use Rattle.cm_call.specs.declared.write.Write.{Write}
use Rattle.cm_repo.specs.Served.{repository}
use Rattle.cmis_runs.specs.Many as runs
use Rattle.cmis_words.specs.declared.serve.Serve.{Serve}
use Rattle.cmis_spec.specs.Repository.{Repository}
use Rattle.desk_model.specs.Histories.{History}
use Rattle.desk_serve.specs.declared.ended.Ended.{Ended}
use Rattle.outside.specs.Clocks.{Words}
use Rattle.outside.specs.Outside.{SourceTold, SinkTold}

-- The links that were served, over one history of the repository with the root alone, which was made at the clock's first word. What a reading is replied
-- is that of every well-formed repository in which its caller sees the same.
abbrev pub ServedAll : {L : Type 0} → (L → SourceTold) → (L → SinkTold) → Serve → Option Words → Option (List L) → History Repository Write → List (Ended L) → Type 0
ServedAll source sink asked clock links last ended = runs.ServedAll repository source sink asked clock links last ended
