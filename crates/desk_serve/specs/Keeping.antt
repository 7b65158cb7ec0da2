-- What the calling thread keeps while it serves.
use Rattle.std.specs.Prelude.{◌≡◌, ℕ, ◌+◌, ◌==◌, nat_lt, List, [], ◌++◌, length, map, All, Option, Some, None, if◌then◌else◌, cond, Result}
use Rattle.std.specs.List.{count_by}
use mathlib.Core.List.{IsPrefix}
use mathlib.Core.Option.{some}
use lib.ListN.{get_elem?}
use Rattle.cm_base.specs.declared.user.User.{User}
use Rattle.desk_model.specs.declared.entry.Entry.{Entry}
use Rattle.desk_model.specs.Histories.{own}
use Rattle.desk_lock.specs.Numbers.{IsIn, names}
use Rattle.desk_lock.specs.Words.{HasFailed, LockView, PassView, IsOf}
use Rattle.talk.specs.declared.end.End.{End}
use Rattle.talk.specs.Talked.{Talked, IfUnkept}
use Rattle.outside.specs.Hosts.{HostTold, IsNew}
use Rattle.desk_serve.specs.declared.ended.Ended.{Ended}
use Rattle.desk_serve.specs.declared.ended.HostEnd.{HostEnd}
use Rattle.desk_serve.specs.Sessions.{Terms, Taken, EndsFor, IsGiven, IsServed, number_of, is_at}

-- how many sessions run at once at most
unfoldable pub most_workers : ℕ
most_workers = 64

-- a pass of this lock with which nothing was done; the lock began with an empty journal
pub record IsFresh {S C A X K : Type 0} (next : S → Entry C → Result (S × A) X) (l : LockView S C K) (q : PassView S C) : Type 0 where
  pub empty : l.version.journal ≡ []
  pub is_of : IsOf next l q
  pub made : q.made ≡ 0
  pub ended : q.ended ≡ []
  pub own : q.known.own ≡ []

-- the same terms, of a host that tells no links
abbrev pub without_links : {S C Q L K : Type 0} → Terms S C Q L K → Terms S C Q L K
without_links t = record { kind = t.kind; source = t.source; sink = t.sink; faults = t.faults; users = t.users; links = None }

-- a session is over: its pass was q and is r, its link was from and is link. A reply could not be kept only where the keeper failed
pub record IsOver {S C Q L K : Type 0} (t : Terms S C Q L K) (l : LockView S C K) (q : PassView S C) (from : L) (r : PassView S C) (link : L) (outcome : End) : Type 0 where
  pub is_of : IsOf t.kind.next l r
  pub made : r.made ≡ 0
  pub ended : r.ended ≡ []
  pub talked : Talked t.kind t.users q.known None (t.source from) (t.sink from) r.known r.sure None (t.source link) (t.sink link) outcome
  pub kept : IfUnkept outcome (HasFailed t.faults)

-- a session that is over, and was that of the host's link at this place; its pass had then seen so many entries
pub record IsHeld {S C Q L K : Type 0} (t : Terms S C Q L K) (l : LockView S C K) (place before : ℕ) (r : PassView S C) (link : L) (outcome : End) : Type 0 where
  pub pass : PassView S C
  pub from : L
  pub over : IsOver (without_links t) l pass from r link outcome
  pub given : IsGiven t.links place from
  pub was_new : IsNew (t.source from) (t.sink from)
  pub before_is : before ≡ length pass.known.seen

-- a session that has ended into the pass p, over a history that p has seen; what it showed is settled, as p knows
pub record IsNoted {S C Q L K : Type 0} (t : Terms S C Q L K) (p : PassView S C) (x : Ended L) : Type 0 where
  pub history : List (Entry C)
  pub mine : List (Entry C)
  pub at : ℕ
  pub seen : IsPrefix history p.known.seen
  pub tallied : get_elem? p.ended at ≡ some (x.number, mine)
  pub owns : own 0 x.number history ≡ mine
  pub served : IsServed t p.known.opening history p.sure x

-- how many sessions run at a place
abbrev pub held_by : {X : Type 0} → (X → ℕ) → List X → ℕ → ℕ
held_by place_of rows place = count_by (λ row. place_of row == place) rows

-- the same, and one more that runs there
abbrev pub and_at : ℕ → (ℕ → ℕ) → ℕ → ℕ
and_at there held place = cond (there == place) 1 0 + held place

-- The calling thread's pass p, and the sessions that have ended, after it has taken n links. So many sessions run, at each place so many as held says, and so many passes have no link.
pub record Keeps {S C Q L K : Type 0} (t : Terms S C Q L K) (l : LockView S C K) (p : PassView S C) (ended : List (Ended L)) (held : ℕ → ℕ) (running spare n : ℕ) : Type 0 where
  pub empty : l.version.journal ≡ []
  pub is_of : IsOf t.kind.next l p
  pub idle : p.known.own ≡ []
  pub made : p.made ≡ 1 + length p.ended + running + spare
  pub numbers : map number_of ended ≡ names p.ended
  pub noted : All (IsNoted t p) ended
  pub total : length ended + running ≡ n
  pub places : (place : ℕ) → count_by (is_at place) ended + held place ≡ (if nat_lt place n then 1 else 0)

-- as the calling thread closes the lock: every pass has ended into its own, and those in rest had no link
pub record IsDone {S C Q L K : Type 0} (t : Terms S C Q L K) (l : LockView S C K) (p : PassView S C) (ended : List (Ended L)) : Type 0 where
  pub empty : l.version.journal ≡ []
  pub is_of : IsOf t.kind.next l p
  pub idle : p.known.own ≡ []
  pub made : p.made ≡ 1 + length p.ended
  pub rest : List ℕ
  pub numbers : names p.ended ≡ map number_of ended ++ rest
  pub resting : (number : ℕ) → IsIn number rest → (j : ℕ) × (get_elem? p.ended j ≡ some (number, []))
  pub noted : All (IsNoted t p) ended
  pub places : (place : ℕ) → count_by (is_at place) ended ≡ (if nat_lt place (length ended) then 1 else 0)

-- after n links, with the pass that has got none, if there is one
abbrev pub KeepsWith : {S C Q L K : Type 0} → Terms S C Q L K → LockView S C K → PassView S C → List (Ended L) → (ℕ → ℕ) → ℕ → ℕ → Option (PassView S C) → Type 0
KeepsWith t l p ended held running n None = Keeps t l p ended held running 0 n
KeepsWith t l p ended held running n (Some q) = Keeps t l p ended held running 1 n × IsFresh t.kind.next l q

-- no more links are taken, for this reason
pub record IsStopped {S C Q L K : Type 0} (t : Terms S C Q L K) (l : LockView S C K) (p : PassView S C) (ended : List (Ended L)) (held : ℕ → ℕ) (running : ℕ) (host host' : HostTold) (left' : Option (List L)) (spare : Option (PassView S C)) (end : HostEnd) : Type 0 where
  pub n : ℕ
  pub taken : Taken host t.links host' left' n
  pub ends : EndsFor host host' left' n end
  pub keeps : KeepsWith t l p ended held running n spare

-- all is over, after n links
pub record IsOverAll {S C Q L K : Type 0} (t : Terms S C Q L K) (l : LockView S C K) (p : PassView S C) (ended : List (Ended L)) (host host' : HostTold) (left' : Option (List L)) (end : HostEnd) : Type 0 where
  pub done : IsDone t l p ended
  pub taken : Taken host t.links host' left' (length ended)
  pub ends : EndsFor host host' left' (length ended) end

-- A running session of the link at this place: its promise knows the lock, the users, the pass and the link with which it began.
pub record Runs {S C Q L K : Type 0} (t : Terms S C Q L K) (l : LockView S C K) (l' : LockView S C K) (users' : List User) (pass : PassView S C) (from : L) (place before : ℕ) : Type 0 where
  pub lock : l' ≡ l
  pub users : users' ≡ t.users
  pub given : IsGiven t.links place from
  pub was_new : IsNew (t.source from) (t.sink from)
  pub before_is : before ≡ length pass.known.seen

-- the calling thread may begin: its pass is the first, and nothing was served
pub record IsReady {S C Q L K : Type 0} (t : Terms S C Q L K) (l : LockView S C K) (p : PassView S C) (ended : List (Ended L)) (running : ℕ) : Type 0 where
  pub keeps : (held : ℕ → ℕ) → ((k : ℕ) → held k ≡ 0) → Keeps t l p ended held 0 0 0
  pub none_run : running ≡ 0
  pub none_ended : length ended ≡ 0
