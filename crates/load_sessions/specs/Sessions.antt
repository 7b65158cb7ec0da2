-- The sessions of a load: which requests each of them has, and the state that they make, one after the other.
use Rattle.std.specs.Prelude.{◌≡◌, ℕ, zero, suc, ◌+◌, ◌-◌, ◌*◌, ◌/◌, min, List}
use Rattle.std.specs.List.{flat_map, range_with_len}
use Rattle.cm_base.specs.declared.user.User.{User}
use Rattle.desk_model.specs.declared.entry.Entry.{Entry}
use Rattle.desk_model.specs.Histories.{replay}
use Rattle.load_requests.specs.Requests.{request}
use Rattle.outside.specs.Clocks.{words_of}
use Rattle.talk.specs.declared.end.End.{End}
use Rattle.talk.specs.Served.{Kind}
use Rattle.talk.specs.Alone.{Alone}

-- how many sessions n requests make
abbrev pub sessions_of : ℕ → ℕ
sessions_of n = (n + 999) / 1000

-- the requests of session k, counted from 0, of n requests in all: the next 1000, or those that are left
abbrev pub numbers_in : ℕ → ℕ → List ℕ
numbers_in n k = range_with_len (k * 1000) (min (n - k * 1000) 1000)

-- The session alone on these requests, over the one state, leads to the other: the state at the end of its history. Its clock gives the number of each request as its moment.
pub record Leads {S C Q : Type 0} (kind : Kind S C Q) (users : List User) (numbers : List ℕ) (before after : S) : Type 0 where
  pub output : List ℕ
  pub end : End
  pub journal : List (Entry C)
  pub alone : Alone kind before users (words_of numbers) (flat_map request numbers) output end journal
  pub after_is : after ≡ replay kind.next before journal

-- the state after the first k sessions of n requests
abbrev pub Made : {S C Q : Type 0} → Kind S C Q → List User → S → ℕ → ℕ → S → Type 0
Made kind users opening n zero s = s ≡ opening
Made {S} kind users opening n (suc k) s = (before : S) × Made kind users opening n k before × Leads kind users (numbers_in n k) before s
