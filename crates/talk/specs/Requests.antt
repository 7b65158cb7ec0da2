-- The requests of a session, with the last one first: how they stand at the front of the bytes, and what stands behind them.
use Rattle.std.specs.Prelude.{◌≡◌, ℕ, ◌-◌, ◌==◌, Bool, true, false, ◌||◌, List, [], ◌∷◌, ◌++◌, None, length, drop, if◌then◌else◌}
use Rattle.cm_base.specs.declared.cause.Cause.TheVariants as causes
use Rattle.http_grammar.specs.declared.fault.HttpFault.{HttpFault}
use Rattle.http_grammar.specs.declared.fault.HttpFault.TheVariants.{BadHead, LongHead, LongBody, BadLength, Coding, Cut}
use Rattle.http_grammar.specs.Request.{Head, Request}
use Rattle.http_grammar.specs.Fields.{expects_continue}
use Rattle.http_grammar.specs.First.{First, Whole, Fault, IsPending, HoldsHead}
use Rattle.talk.specs.Wire.{Wire}

-- a request with its length in bytes
pub record Arrived : Type 0 where
  pub request : Request
  pub size : ℕ

-- what of the input stands behind the requests
abbrev pub rest_after : List ℕ → List Arrived → List ℕ
rest_after input [] = input
rest_after input (r ∷ rs) = drop r.size (rest_after input rs)

-- the most requests of a session
abbrev pub most_requests : ℕ
most_requests = 1000

-- the reply to this head is the last of its session, after so many others: the 1000th reply, the reply to HTTP/1.0, or to `Connection: close` (RFC 9112, section 9.6)
abbrev pub is_last : Wire → ℕ → Head → Bool
is_last w count head = (count == most_requests - 1) || w.closes head

-- no reply has closed the session
abbrev pub IsOpen : Wire → List Arrived → Type 0
IsOpen w [] = Unit {0}
IsOpen w (r ∷ rs) = is_last w (length rs) r.request.head ≡ false

-- the last reply has closed it
abbrev pub IsClosed : Wire → List Arrived → Type 0
IsClosed w [] = ⊥
IsClosed w (r ∷ rs) = is_last w (length rs) r.request.head ≡ true

-- they are the requests at the front of the input, in their order, and none follows one whose reply closes
abbrev pub AreRequests : Wire → List ℕ → List Arrived → Type 0
AreRequests w input [] = Unit {0}
AreRequests w input (r ∷ rs) = AreRequests w input rs × IsOpen w rs × First (rest_after input rs) (Whole r.request r.size)

-- the interim reply of a request with this head, if it has one (RFC 9110, section 10.1.1)
abbrev pub interim_of : Wire → Head → List ℕ
interim_of w head = if expects_continue head then w.interim_text else []

-- The interim reply that is due before the reply to the first request that has none: there is one where the bytes hold its whole head, which has no fault and expects it.
pub data Due (w : Wire) (rest : List ℕ) (text : List ℕ) : Type 0 where
  interim : (head : Head) → HoldsHead rest head → expects_continue head ≡ true → text ≡ w.interim_text → Due w rest text
  no_interim : ((head : Head) → HoldsHead rest head → expects_continue head ≡ false) → text ≡ [] → Due w rest text

-- what is sent for a fault of the bytes; for a request that is cut off nothing
abbrev pub fault_text : Wire → HttpFault → List ℕ
fault_text w BadHead = w.reply_text (w.cause_shown causes.BadHead None) true
fault_text w LongHead = w.reply_text (w.cause_shown causes.LongHead None) true
fault_text w LongBody = w.reply_text (w.cause_shown causes.LongBody None) true
fault_text w BadLength = w.reply_text (w.cause_shown causes.BadLength None) true
fault_text w Coding = w.reply_text (w.cause_shown causes.Coding None) true
fault_text w Cut = []

-- the fault stands at the front of the rest, or the input ends inside a request
pub data HasFault (rest : List ℕ) (over : Bool) (fault : HttpFault) : Type 0 where
  at_front : First rest (Fault fault) → HasFault rest over fault
  cut : fault ≡ Cut → IsPending rest → over ≡ true → HasFault rest over fault

-- the session has ended: a reply closed it, or the input ends where a request would begin
pub data AtEnd (w : Wire) (rs : List Arrived) (rest : List ℕ) (over : Bool) : Type 0 where
  closed : IsClosed w rs → AtEnd w rs rest over
  at_border : IsOpen w rs → rest ≡ [] → over ≡ true → AtEnd w rs rest over

-- the session has met a fault: behind what was sent stand the interim reply that is due and the text of the fault
pub record IsBad (w : Wire) (rs : List Arrived) (rest : List ℕ) (over : Bool) (fault : HttpFault) (sent output : List ℕ) : Type 0 where
  pub still_open : IsOpen w rs
  pub has_fault : HasFault rest over fault
  pub due : List ℕ
  pub is_due : Due w rest due
  pub output_is : output ≡ sent ++ (due ++ fault_text w fault)
