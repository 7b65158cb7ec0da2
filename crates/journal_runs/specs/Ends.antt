-- How a run ends that doesn't begin, or whose entries are not all kept: its status, and what is written.
use Rattle.std.specs.Prelude.{◌≡◌, ℕ, List, Some, None}
use Rattle.std.specs.declared.option.Option.{Option}
use Rattle.outside.specs.Outside.{SinkTold}
use Rattle.cmis_spec.specs.Repository.{administrator_of}
use Rattle.keep_status.specs.declared.why.WhyUnkept.{WhyUnkept}
use Rattle.keep_status.specs.declared.why.WhyUnkept.TheVariants as reasons
use Rattle.keep_status.specs.Endings.{Told, administrator, damaged, lacking, unkept}
use Rattle.journal_keeper.specs.declared.lost.Lost.{Lost}
use Rattle.journal_keeper.specs.declared.lost.Lost.TheVariants as losses
use Rattle.journal_people.specs.Told.{PeopleTold}
use Rattle.journal_people.specs.Meetings as meetings
use Rattle.journal_start.specs.declared.begin_stop.BeginStop.{BeginStop}
use Rattle.journal_start.specs.declared.begin_stop.BeginStop.TheVariants.{Fault, Damaged, Stopped, People, Memory}
use Rattle.journal_runs.specs.declared.kept_stop.KeptStop.{KeptStop}
use Rattle.journal_runs.specs.declared.kept_stop.KeptStop.TheVariants.{NotBegun, Sessions}

-- a disk that has failed: the status 9, and the line of some reason
abbrev pub IsUnkept : SinkTold → SinkTold → ℕ → Type 0
IsUnkept empty full status = (why : WhyUnkept) × Told 9 (unkept why) empty full status

-- memory was wanted: the status 7, and nothing is written
abbrev pub IsStarved : SinkTold → SinkTold → ℕ → Type 0
IsStarved empty full status = (status ≡ 7) × (full ≡ empty)

-- what is told where people were refused: the first name of the file that the run lacks; where it lacks none, the file's administrator
abbrev pub TellsRefused : PeopleTold → Option (List ℕ) → SinkTold → SinkTold → ℕ → Type 0
TellsRefused kept (Some name) empty full status = Told 10 (lacking name) empty full status
TellsRefused kept None empty full status = Told 10 (administrator (administrator_of kept.names)) empty full status

abbrev pub TellsPeople : PeopleTold → PeopleTold → SinkTold → SinkTold → ℕ → Type 0
TellsPeople kept asked empty full status = TellsRefused kept (meetings.lacking kept asked) empty full status

-- what is told of a journal that isn't begun, where these are the people of the run
abbrev pub TellsNotBegun : PeopleTold → BeginStop PeopleTold → SinkTold → SinkTold → ℕ → Type 0
TellsNotBegun asked Fault empty full status = IsUnkept empty full status
TellsNotBegun asked (Damaged n) empty full status = Told 11 (damaged n) empty full status
TellsNotBegun asked (Stopped n) empty full status = Told 11 (damaged n) empty full status
TellsNotBegun asked (People kept) empty full status = TellsPeople kept asked empty full status
TellsNotBegun asked Memory empty full status = IsStarved empty full status

-- what is told of a run that doesn't begin
abbrev pub TellsStop : PeopleTold → KeptStop PeopleTold → SinkTold → SinkTold → ℕ → Type 0
TellsStop asked (NotBegun stop) empty full status = TellsNotBegun asked stop empty full status
TellsStop asked Sessions empty full status = Told 9 (unkept reasons.Other) empty full status

-- what is told where not all entries are kept, for this reason
abbrev pub TellsLost : Option Lost → SinkTold → SinkTold → ℕ → Type 0
TellsLost None empty full status = IsUnkept empty full status
TellsLost (Some losses.Disk) empty full status = IsUnkept empty full status
TellsLost (Some losses.Before) empty full status = IsUnkept empty full status
TellsLost (Some losses.Unread) empty full status = Told 9 (unkept reasons.NotRead) empty full status
TellsLost (Some losses.Session) empty full status = Told 9 (unkept reasons.Other) empty full status
TellsLost (Some losses.Memory) empty full status = IsStarved empty full status
