-- What stands at the front of the bytes of a connection: a relation on whole texts, which knows of no reads.
use Rattle.std.specs.Prelude.{◌≡◌, ℕ, ◌+◌, ◌<◌, ◌≤◌, ◌⊎◌, true, List, [], length, take, Result, Ok, Err, if◌then◌else◌, is_ok, ⊤}
use Rattle.httparse.specs.Grammar.{RequestHead, print_request, ReadsRequest, HasNoRequest, NeverHasRequest}
use Rattle.http_grammar.specs.Limits.{head_limit}
use Rattle.http_grammar.specs.Judged.{is_judged}
use Rattle.http_grammar.specs.Request.{Head, Request, head_of}
use Rattle.http_grammar.specs.Fields.{head_framing, expects_continue}
use Rattle.http_grammar.specs.Chunks.{BodyFront, unfinished, ends, broken, Body}
use Rattle.http_grammar.specs.declared.fault.HttpFault.{HttpFault}
use Rattle.http_grammar.specs.declared.fault.HttpFault.TheVariants.{BadHead, LongHead}
use Rattle.http_grammar.specs.declared.framing.Framing.{Framing}

-- nothing; a proper beginning of a request; a whole head that expects the interim reply, whose body is still to come;
-- one request with its length in bytes; or a fault
pub data Front : Type 0 where
  Nothing : Front
  Beginning : Front
  Waits : Head → Front
  Whole : Request → ℕ → Front
  Fault : HttpFault → Front

-- a head that isn't too long, and then rest
pub record HasHead (bytes : List ℕ) (h : RequestHead) (rest : List ℕ) : Type 0 where
  pub reads : ReadsRequest bytes h rest
  pub short : length (print_request h) ≤ head_limit

-- they are to be judged, and no bytes can follow that make a head of a prefix
pub record HasNoFuture (bytes : List ℕ) : Type 0 where
  pub judged : is_judged bytes ≡ true
  pub never : NeverHasRequest bytes

-- no prefix is a head, and they aren't hopeless
pub record IsOpen (bytes : List ℕ) : Type 0 where
  pub none : HasNoRequest bytes
  pub hope : ¬ (HasNoFuture bytes)

-- a head of n bytes and the body behind it
abbrev pub front_of : Head → ℕ → BodyFront → Front
front_of h n unfinished = if expects_continue h then Waits h else Beginning
front_of h n (ends body form) = Whole (record { head = h; body = body }) (n + form)
front_of h n (broken fault) = Fault fault

-- what a whole head of n bytes and the bytes behind it are
abbrev pub Follows : Result Framing HttpFault → Head → ℕ → List ℕ → Front → Type 0
Follows (Err fault) h n rest front = front ≡ Fault fault
Follows (Ok framing) h n rest front = (body : BodyFront) × Body framing rest body × (front ≡ front_of h n body)

-- the rules, of which one at most gives a front
pub data First (bytes : List ℕ) (front : Front) : Type 0 where
  empty : bytes ≡ [] → front ≡ Nothing → First bytes front
  partial : 0 < length bytes → length bytes < head_limit → IsOpen bytes → front ≡ Beginning → First bytes front
  hopeless : HasNoFuture (take head_limit bytes) → front ≡ Fault BadHead → First bytes front
  too_long : head_limit ≤ length bytes → IsOpen (take head_limit bytes) → front ≡ Fault LongHead → First bytes front
  whole_head : (h : RequestHead) (rest : List ℕ) → HasHead bytes h rest
      → Follows (head_framing (head_of h)) (head_of h) (length (print_request h)) rest front → First bytes front

-- a request or a fault: what more bytes don't change
abbrev pub IsDecided : Front → Type 0
IsDecided Nothing = ⊥
IsDecided Beginning = ⊥
IsDecided (Waits h) = ⊥
IsDecided (Whole request n) = ⊤
IsDecided (Fault fault) = ⊤

-- a proper beginning of a request, with its whole head or without
abbrev pub IsPending : List ℕ → Type 0
IsPending bytes = First bytes Beginning ⊎ ((h : Head) × First bytes (Waits h))

-- the bytes begin with a whole head that has no fault of its own
pub record HoldsHead (bytes : List ℕ) (head : Head) : Type 0 where
  pub text : RequestHead
  pub rest : List ℕ
  pub has : HasHead bytes text rest
  pub head_is : head ≡ head_of text
  pub good : is_ok (head_framing head) ≡ true
