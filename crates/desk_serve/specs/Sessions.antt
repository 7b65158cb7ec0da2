-- Links that were served over one history.
use Rattle.std.specs.Prelude.{◌≡◌, ◌⊎◌, ℕ, ◌+◌, ◌<◌, ◌≤◌, ◌==◌, nat_lt, Bool, List, drop, length, map, All, Option, Some, None, Result, if◌then◌else◌}
use Rattle.std.specs.List.{count_by}
use mathlib.Core.Option.{some}
use lib.ListN.{get_elem?}
use Rattle.cm_base.specs.declared.cause.Cause.{Cause}
use Rattle.cm_base.specs.declared.number.Moment.{Moment}
use Rattle.cm_base.specs.declared.shown.Shown.{Shown}
use Rattle.cm_base.specs.declared.user.User.{User}
use Rattle.http_grammar.specs.Request.{Head, Request}
use Rattle.outside.specs.Outside.{SourceTold, SinkTold, Gave, Took, Rose}
use Rattle.outside.specs.Hosts.{HostTold, IsNew, NoneLeft}
use Rattle.desk_model.specs.declared.entry.Entry.{Entry}
use Rattle.desk_model.specs.Histories.{History, IsLegal, IsNumbered}
use Rattle.desk_lock.specs.declared.board.Store.{Store}
use Rattle.desk_lock.specs.Board.{IsBroken, Settled}
use Rattle.desk_lock.specs.Numbers.{AreApart, IsIn}
use Rattle.desk_lock.specs.Words.{HasFailed}
use Rattle.cm_base.specs.declared.asked.Asked.{Asked}
use Rattle.talk.specs.Served.{Kind, wire_of}
use Rattle.talk.specs.Session.{Setting, Session}
use Rattle.talk.specs.Settled.{ShowsWithin}
use Rattle.talk.specs.Talked.{rose, IfUnkept}
use Rattle.desk_serve.specs.declared.ended.Ended.{Ended}
use Rattle.desk_serve.specs.declared.ended.HostEnd.{HostEnd}
use Rattle.desk_serve.specs.declared.ended.HostEnd.TheVariants.{Empty, Fault, Many, Memory}

-- how many links a host gives to a server at most
unfoldable pub most_links : ℕ
most_links = 1048576

-- what a server is given: what the machine means, what both sides of a link tell, the count of faults of a keeper, the users, and the links that the host has left, where it tells them
pub record Terms (S C Q L K : Type 0) : Type 0 where
  pub kind : Kind S C Q
  pub source : L → SourceTold
  pub sink : L → SinkTold
  pub faults : K → ℕ
  pub users : List User
  pub links : Option (List L)

-- the terms, by the parts of the machine, of the keeper and of the link
abbrev pub terms : {S C Q L K : Type 0} → (S → Entry C → Result (S × Shown) Cause) → (S → List ℕ → Q → Result Shown Cause) → (S → ℕ)
    → (Request → Result (Asked C Q) Cause) → (Head → List User → Result (List ℕ) Cause) → (Head → ℕ) → (Head → Bool)
    → (K → ℕ) → (L → SourceTold) → (L → SinkTold) → List User → Option (List L) → Terms S C Q L K
terms next answer number call user least closes faults source sink users links = record {
  kind = record { next = next; answer = answer; number = number; call = call; wire = wire_of user least closes };
  source = source;
  sink = sink;
  faults = faults;
  users = users;
  links = links;
}

module _ {L : Type 0} where
  -- the link is the host's at this place, where it tells its links
  abbrev pub IsGiven : Option (List L) → ℕ → L → Type 0
  IsGiven None place link = Unit {0}
  IsGiven (Some links) place link = get_elem? links place ≡ some link

  -- after n links the host has those behind them left, where it tells its links
  abbrev pub HasLeft : Option (List L) → ℕ → Option (List L) → Type 0
  HasLeft None n after = after ≡ None
  HasLeft (Some links) n after = after ≡ Some (drop n links)

  abbrev pub number_of : Ended L → ℕ
  number_of x = x.number

  abbrev pub is_at : ℕ → Ended L → Bool
  is_at place x = x.place == place

-- the host has given n links since it told what stands first
pub record Taken {L : Type 0} (host : HostTold) (links : Option (List L)) (host' : HostTold) (links' : Option (List L)) (n : ℕ) : Type 0 where
  pub given : host'.given ≡ host.given + n
  pub port : host'.port ≡ host.port
  pub bound : host'.bound ≡ host.bound
  pub later : host.faults ≤ host'.faults
  pub left : HasLeft links n links'

-- why no more links were taken after n: the host had none to give, or failed; there were as many as there may be; or memory was wanted
abbrev pub EndsFor : {L : Type 0} → HostTold → HostTold → Option (List L) → ℕ → HostEnd → Type 0
EndsFor host host' links' n Empty = (n < most_links) × ((host'.given ≡ host'.bound) ⊎ NoneLeft links')
EndsFor host host' links' n Fault = (n < most_links) × Rose host.faults host'.faults
EndsFor host host' links' n Many = n ≡ most_links
EndsFor host host' links' n Memory = n < most_links

-- where the session of a link began: the opening, the users, its number, and how long the journal was that its pass had seen
abbrev pub setting_of : {S L : Type 0} → S → List User → Ended L → Setting S
setting_of opening users x = record { opening = opening; users = users; number = x.number; before = x.before }

-- A link that was served, over the history h: it is the host's at its place, and was new; what it has given since and what it has taken, as far as it tells them,
-- are a session over h, which had seen so much of h at its start and at its end. What it sent shows only what is among the first entries of h, so many as are sure.
-- A reply could not be kept only where the keeper failed.
pub record IsServed {S C Q L K : Type 0} (t : Terms S C Q L K) (opening : S) (h : List (Entry C)) (sure : ℕ) (x : Ended L) : Type 0 where
  pub from : L
  pub given : IsGiven t.links x.place from
  pub was_new : IsNew (t.source from) (t.sink from)
  pub input : List ℕ
  pub output : List ℕ
  pub times : List Moment
  pub gave : Gave (t.source from) (t.source x.link) input
  pub took : Took (t.sink from) (t.sink x.link) output
  pub session : Session t.kind (setting_of opening t.users x) x.after h input (t.source x.link).ended output times
      (rose (t.source from).faults (t.source x.link).faults) (rose (t.sink from).faults (t.sink x.link).faults) x.outcome
  pub settled : ShowsWithin t.kind t.users sure session.turns output x.outcome
  pub kept : IfUnkept x.outcome (HasFailed t.faults)

-- What is told at the end. One legal history of accepted writes: each entry's session is that of a link, the numbers of these are apart, and each session's serials are 0, 1, 2 and so on.
-- The links are those at the first places, each once, and each was served over this history; all that was shown is among its first entries, so many as are sure.
pub record Closed {S C Q L K : Type 0} (t : Terms S C Q L K) (opening : S) (last : History S C) (sure : ℕ) (ended : List (Ended L)) : Type 0 where
  pub opening_is : last.opening ≡ opening
  pub lawful : IsLegal t.kind.next opening last.journal
  pub serials : IsNumbered 0 last.journal
  pub numbers : AreApart (map number_of ended)
  pub sessions : (k : ℕ) (e : Entry C) → get_elem? last.journal k ≡ some e → IsIn e.session (map number_of ended)
  pub places : (place : ℕ) → count_by (is_at place) ended ≡ (if nat_lt place (length ended) then 1 else 0)
  pub served : All (IsServed t opening last.journal sure) ended

-- What is told at the end, where the keeper is left in this store: all that any reply showed is among the first entries of the one history, and these stand there.
-- The store is that of a keeper that failed only where its count of faults rose.
pub record ClosedOver {S C Q L K : Type 0} (t : Terms S C Q L K) (stands : K → ℕ → List (Entry C) → Type 0) (opening : S) (store : Store K) (last : History S C) (ended : List (Ended L)) : Type 0 where
  pub sure : ℕ
  pub stand : Settled stands store last.journal sure
  pub broken : IsBroken store → HasFailed t.faults
  pub closed : Closed t opening last sure ended
