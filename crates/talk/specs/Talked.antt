-- What a whole session tells: of its link, of its desk, and of the history.
use Rattle.std.specs.Prelude.{◌≡◌, ℕ, ◌+◌, ◌-◌, ◌^◌, min, nat_le, Bool, List, length, Option}
use mathlib.Core.List.{IsPrefix}
use Rattle.outside.specs.Clocks.{Words}
use Rattle.outside.specs.Outside.{SourceTold, SinkTold, Gave, Took}
use Rattle.cm_base.specs.declared.number.Moment.{Moment}
use Rattle.cm_base.specs.declared.user.User.{User}
use Rattle.desk_model.specs.Desks.{Known}
use Rattle.talk.specs.declared.end.End.{End}
use Rattle.talk.specs.declared.end.End.TheVariants.{Ended, Bad, ReadFault, WriteFault, Starved, Unkept}
use Rattle.talk.specs.Served.{Kind}
use Rattle.talk.specs.Session.{Session}
use Rattle.talk.specs.Settled.{ShowsWithin}
use Rattle.talk.specs.Told.{Told, ToldOrOneMore}
use Rattle.talk.specs.Turned.{setting}

-- whether a count of faults rose, or stands at the last value of its type
abbrev pub rose : ℕ → ℕ → Bool
rose before now = nat_le (min (before + 1) (2 ^ 64 - 1)) now

-- the words that a session took from its clock: one for each write that reached the repository; where memory was wanted or a reply could not be kept, at most one more
abbrev pub TakesWords : End → Option Words → List Moment → Option Words → Type 0
TakesWords Ended u times v = Told u times v
TakesWords (Bad fault) u times v = Told u times v
TakesWords ReadFault u times v = Told u times v
TakesWords WriteFault u times v = Told u times v
TakesWords Starved u times v = ToldOrOneMore u times v
TakesWords Unkept u times v = ToldOrOneMore u times v

-- a fact of a session whose reply could not be kept
abbrev pub IfUnkept : End → Type 0 → Type 0
IfUnkept Ended fact = Unit {0}
IfUnkept (Bad fault) fact = Unit {0}
IfUnkept ReadFault fact = Unit {0}
IfUnkept WriteFault fact = Unit {0}
IfUnkept Starved fact = Unit {0}
IfUnkept Unkept fact = fact

-- A session of a pass that knew k and now knows l: its link gave the input and took the output, its clock gave the times, and these are a session over the journal that the pass has now seen.
-- So many entries of that are settled, if not more, and what it sent shows no others.
pub record Talked {S C Q : Type 0} (kind : Kind S C Q) (users : List User) (k : Known S C) (words : Option Words) (source : SourceTold) (sink : SinkTold) (l : Known S C) (sure : ℕ) (after : Option Words) (source' : SourceTold) (sink' : SinkTold) (end : End) : Type 0 where
  pub input : List ℕ
  pub output : List ℕ
  pub times : List Moment
  pub gave : Gave source source' input
  pub took : Took sink sink' output
  pub told : TakesWords end words times after
  pub opening : l.opening ≡ k.opening
  pub base : l.base ≡ k.base
  pub number : l.session ≡ k.session
  pub seen : IsPrefix k.seen l.seen
  pub session : Session kind (setting k users) (length l.seen) l.seen input source'.ended output times (rose source.faults source'.faults) (rose sink.faults sink'.faults) end
  pub settled : ShowsWithin kind users sure session.turns output end
