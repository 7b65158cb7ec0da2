-- What a caller is sent follows from what he sees.
use Rattle.cm_repo.specs.Served.{repository}
use Rattle.cmis_program.specs.Alike as runs
use Rattle.cmis_spec.specs.Repository.{Repository}

-- After any history of this opening, each reading's reply is that of every well-formed repository in which its caller sees the same.
abbrev pub RepliesOfSeen : Repository → Type 0
RepliesOfSeen opened = runs.RepliesOfSeen repository opened
