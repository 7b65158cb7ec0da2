-- What is told of a host whose links a run has served.
use Rattle.std.specs.Prelude.{◌≡◌, ℕ, ◌≤◌, List, Option, IfSome}
use Rattle.outside.specs.Clocks.{Words, first_word}
use Rattle.outside.specs.Hosts.{HostTold, Begins}
use Rattle.cm_base.specs.declared.number.Moment.{Moment}
use Rattle.cmis_words.specs.declared.serve.Serve.{Serve}
use Rattle.desk_model.specs.Clocks.{moment_of}
use Rattle.desk_serve.specs.declared.ended.HostEnd.{HostEnd}
use Rattle.desk_serve.specs.Sessions.{Taken, EndsFor}

-- the moment is that of the clock's first word, where the clock tells its words
abbrev pub IsFirstMoment : Option Words → Moment → Type 0
IsFirstMoment clock moment = IfSome clock (λ w. moment ≡ moment_of (first_word w))

-- a host that began with these words, and then gave n links, until this end
pub record Hosted {L : Type 0} (asked : Serve) (host : HostTold) (links : Option (List L)) (host' : HostTold) (links' : Option (List L)) (n : ℕ) (end : HostEnd) : Type 0 where
  pub begun : HostTold
  pub later : host.faults ≤ begun.faults
  pub begins : Begins begun asked.port asked.links
  pub taken : Taken begun links host' links' n
  pub ends : EndsFor begun host' links' n end
