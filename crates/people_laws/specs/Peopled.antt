-- The people of a repository that is replayed.
use Rattle.std.specs.Prelude.{◌≡◌}
use Rattle.cm_base.specs.declared.cause.Cause.{Cause}
use Rattle.cm_base.specs.declared.shown.Shown.{Shown}
use Rattle.cm_call.specs.declared.write.Write.{Write}
use Rattle.cmis_spec.specs.Repository.{Repository}
use Rattle.journal_people.specs.Told.{PeopleTold}
use Rattle.journal_replay.specs.Recorded.{Replay, Steps}
use Rattle.cm_people.specs.Adopted.{adopted}
use Rattle.cm_repo.specs.ServerMachine.{shown_step}

-- what the machine of the server does with the records of a journal
abbrev pub server_steps : Steps Repository Write PeopleTold Shown Cause
server_steps = record { next = shown_step; adopt = adopted }

-- its users and its groups are those of the people that hold
abbrev pub HasItsPeople : Replay Repository PeopleTold → Type 0
HasItsPeople replay = (replay.state.users ≡ replay.people.names) × (replay.state.groups ≡ replay.people.groups)
