-- What one turn tells of the desk.
use Rattle.std.specs.Prelude.{◌≡◌, ℕ, ◌⊎◌, Bool, List, [], ◌++◌, Option, Some, Result, Ok, Err, length}
use mathlib.Core.List.{IsPrefix}
use Rattle.outside.specs.Clocks.{Words}
use Rattle.cm_base.specs.declared.number.Moment.{Moment}
use Rattle.cm_base.specs.declared.shown.Shown.{Shown}
use Rattle.cm_base.specs.declared.user.User.{User}
use Rattle.desk_model.specs.declared.entry.Entry.{Entry}
use Rattle.desk_model.specs.Desks.{Known}
use Rattle.http_grammar.specs.Request.{Head}
use Rattle.talk.specs.declared.turn.Unanswered.{Unanswered}
use Rattle.talk.specs.declared.turn.Unanswered.TheVariants.{Memory, Unkept}
use Rattle.talk.specs.declared.turn.Verdict.{Verdict}
use Rattle.talk.specs.declared.turn.Verdict.TheVariants.{Shows, Refuses}
use Rattle.http_reply.specs.Replies.{cause_shown}
use Rattle.talk.specs.Served.{Kind, Ask}
use Rattle.talk.specs.Session.{Setting, Does, listed, timed}
use Rattle.talk.specs.Told.{Told, ToldOrOneMore}

-- what is shown of what the desk says
abbrev pub verdict_shown : Verdict → Shown
verdict_shown (Shows shown) = shown
verdict_shown (Refuses cause n) = cause_shown cause (Some n)

-- a fact of a refusal
abbrev pub IfRefuses : Verdict → Type 0 → Type 0
IfRefuses (Shows shown) fact = Unit {0}
IfRefuses (Refuses cause n) fact = fact

-- it is a refusal
abbrev pub IsRefusal : Verdict → Type 0
IsRefusal (Shows shown) = ⊥
IsRefusal (Refuses cause n) = Unit {0}

-- a pass that knew k knows l, and has made these entries
pub record GoesOn {S C : Type 0} (k l : Known S C) (made : List (Entry C)) : Type 0 where
  pub opening : l.opening ≡ k.opening
  pub base : l.base ≡ k.base
  pub session : l.session ≡ k.session
  pub seen : IsPrefix k.seen l.seen
  pub own : l.own ≡ k.own ++ made

-- the pass has made no entry, and at most one word of the clock is gone
pub record Stays {S C : Type 0} (k l : Known S C) (words after : Option Words) : Type 0 where
  pub on : GoesOn k l []
  pub told : ToldOrOneMore words [] after

-- the setting of a session whose pass knows k
abbrev pub setting : {S C : Type 0} → Known S C → List User → Setting S
setting k users = record { opening = k.opening; users = users; number = k.session; before = length k.seen }

-- a turn that asks this does what it should at what the pass has then seen, and has taken a word of the clock if it is a write
pub record Turned {S C Q : Type 0} (kind : Kind S C Q) (users : List User) (head : Head) (last : Bool) (ask : Ask C Q) (k : Known S C) (words : Option Words) (text : List ℕ) (l : Known S C) (after : Option Words) : Type 0 where
  pub wrote : Option (Entry C)
  pub moment : Moment
  pub does : Does kind (setting k users) (length k.own) (length k.seen) (length l.seen) l.seen head last ask wrote moment text
  pub on : GoesOn k l (listed wrote)
  pub told : Told words (timed ask moment) after

-- a turn whose reply could not be kept: nothing was done, or what it should do, and its text is not sent
abbrev pub TurnUnkept : {S C Q : Type 0} → Kind S C Q → List User → Head → Bool → Ask C Q → Known S C → Option Words → Known S C → Option Words → Type 0
TurnUnkept kind users head last ask k words l after = Stays k l words after ⊎ ((text : List ℕ) × Turned kind users head last ask k words text l after)

-- a fact of want of memory
abbrev pub IfStarved : {A : Type 0} → Result A Unanswered → Type 0 → Type 0
IfStarved (Ok a) fact = Unit {0}
IfStarved (Err Memory) fact = fact
IfStarved (Err Unkept) fact = Unit {0}

-- a fact of a reply that could not be kept
abbrev pub IfUnkept : {A : Type 0} → Result A Unanswered → Type 0 → Type 0
IfUnkept (Ok a) fact = Unit {0}
IfUnkept (Err Memory) fact = Unit {0}
IfUnkept (Err Unkept) fact = fact
