-- A session with nobody beside it, over an opening.
use Rattle.std.specs.Prelude.{◌≡◌, ◌≢◌, List, ℕ, Bool, length, Option, IfSome}
use mathlib.Core.List.{IsPrefix}
use Rattle.outside.specs.Clocks.{Words}
use Rattle.outside.specs.Outside.{SourceTold, SinkTold, Gave, Took}
use Rattle.cm_base.specs.declared.number.Moment.{Moment}
use Rattle.cm_base.specs.declared.user.User.{User}
use Rattle.desk_model.specs.declared.entry.Entry.{Entry}
use Rattle.desk_model.specs.Histories.{own}
use Rattle.talk.specs.declared.end.End.{End}
use Rattle.talk.specs.declared.end.End.TheVariants.{Ended, Bad, ReadFault, WriteFault, Starved, Unkept}
use Rattle.talk.specs.Served.{Kind}
use Rattle.talk.specs.Session.{Session}
use Rattle.talk.specs.Talked.{TakesWords, rose}
use Rattle.talk.specs.Alone.{Alone, LostAlone, StarvedAlone, IsFinal, alone_at}

-- By the bytes that were given: a session that ends well or by a fault of its bytes is the session alone on them;
-- one whose read failed has sent and written what the session alone on them does; one whose write failed, or that wanted memory, is the session alone up to there. Each reply is kept.
abbrev pub IsAloneOnGiven : {S C Q : Type 0} → Kind S C Q → S → List User → Words → List ℕ → List ℕ → Bool → List (Entry C) → End → Type 0
IsAloneOnGiven kind opening users words input output write_failed h Ended = Alone kind opening users words input output Ended h
IsAloneOnGiven kind opening users words input output write_failed h (Bad fault) = Alone kind opening users words input output (Bad fault) h
IsAloneOnGiven kind opening users words input output write_failed h ReadFault = (end : End) × Alone kind opening users words input output end h
IsAloneOnGiven kind opening users words input output write_failed h WriteFault = LostAlone kind opening users words input output h
IsAloneOnGiven kind opening users words input output write_failed h Starved = StarvedAlone kind opening users words input output write_failed h
IsAloneOnGiven kind opening users words input output write_failed h Unkept = ⊥

-- What it tells, with the journal that it leaves and the words that its clock is then still to give. All of the journal is its own, and it is a session over that. Where the clock tells its words, it is the session alone on the bytes that were given;
-- and where the source tells what it had left, also on all of it. Where a write failed, a front was sent of what the session alone on all of it sends.
pub record RunAlone {S C Q : Type 0} (kind : Kind S C Q) (opening : S) (users : List User) (words : Option Words) (source : SourceTold) (sink : SinkTold) (source' : SourceTold) (sink' : SinkTold) (end : End) (journal : List (Entry C)) (after : Option Words) : Type 0 where
  pub input : List ℕ
  pub output : List ℕ
  pub times : List Moment
  pub gave : Gave source source' input
  pub took : Took sink sink' output
  pub told : TakesWords end words times after
  pub kept : end ≢ Unkept
  pub all_own : own 0 0 journal ≡ journal
  pub session : Session kind (alone_at opening users) (length journal) journal input source'.ended output times (rose source.faults source'.faults) (rose sink.faults sink'.faults) end
  pub on_given : IfSome words (λ w. IsAloneOnGiven kind opening users w input output (rose sink.faults sink'.faults) journal end)
  pub on_all : IsFinal end → IfSome words (λ w. IfSome source.left (λ left. Alone kind opening users w left output end journal))
  pub on_lost : end ≡ WriteFault → IfSome words (λ w. IfSome source.left (λ left. (o : List ℕ) (stop : End) (h : List (Entry C)) → Alone kind opening users w left o stop h → IsPrefix output o))
