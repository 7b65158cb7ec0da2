-- What a look at the bytes says of the head at their front.
use Rattle.std.specs.Prelude.{◌≡◌, ℕ, ◌<◌, ◌≤◌, Bool, List, length, take, drop, Ok, All}
use Rattle.httparse.specs.Grammar.{RequestHead, print_request}
use Rattle.httparse.specs.Spans.{IsWithin, IsHeaderWithin, IsRequestAt, IsRequestWithin, span_bytes}
use Rattle.httparse.specs.declared.spans.HeaderSpan.{HeaderSpan}
use Rattle.httparse.specs.declared.spans.RequestSpans.{RequestSpans}
use Rattle.http_grammar.specs.Limits.{head_limit}
use Rattle.http_grammar.specs.Request.{Head, head_of}
use Rattle.http_grammar.specs.Fields.{head_framing, expects_continue}
use Rattle.http_grammar.specs.First.{First, Beginning, Fault, HasHead, IsOpen, HasNoFuture, HoldsHead}
use Rattle.http_grammar.specs.declared.framing.Framing.{Framing}
use Rattle.http_wire.specs.Found.{fields_at}
use Rattle.http_wire.specs.declared.heads.PartSeen.{PartSeen}
use Rattle.http_wire.specs.declared.heads.PartSeen.TheVariants as part
use Rattle.http_wire.specs.declared.heads.HeadSeen.{HeadSeen}
use Rattle.http_wire.specs.declared.heads.HeadSeen.TheVariants as seen

-- what the bytes within the limit of a head say
abbrev pub SeesPart : List ℕ → List HeaderSpan → PartSeen → Type 0
SeesPart text spans part.Open = IsOpen text
SeesPart text spans part.Hopeless = HasNoFuture text
SeesPart text spans (part.Head r) = IsRequestWithin text spans r × (h : RequestHead) × IsRequestAt text spans r h

-- the spans cover the parts of a head in its text
pub record HeadAt (text : List ℕ) (spans : List HeaderSpan) (r : RequestSpans) (head : Head) : Type 0 where
  pub method_within : IsWithin (length text) r.method
  pub target_within : IsWithin (length text) r.path
  pub count : r.headers ≤ length spans
  pub fields_within : All (IsHeaderWithin (length text)) (take r.headers spans)
  pub method : span_bytes text r.method ≡ head.method
  pub target : span_bytes text r.path ≡ head.target
  pub minor : r.version ≡ head.minor
  pub fields : fields_at text (take r.headers spans) ≡ head.fields

-- a whole head stands at the front of the bytes, and the spans cover its parts
pub record WholeHeadAt (bytes : List ℕ) (spans : List HeaderSpan) (r : RequestSpans) : Type 0 where
  pub text : RequestHead
  pub has : HasHead bytes text (drop r.len bytes)
  pub len : r.len ≡ length (print_request text)
  pub inside : r.len ≤ length bytes
  pub at : HeadAt (take r.len bytes) spans r (head_of text)

-- a whole head without a fault, with its framing and whether it expects the interim reply
pub record SeesWhole (bytes : List ℕ) (spans : List HeaderSpan) (r : RequestSpans) (framing : Framing) (expects : Bool) : Type 0 where
  pub whole : WholeHeadAt bytes spans r
  pub framing_is : head_framing (head_of whole.text) ≡ Ok framing
  pub expects_is : expects ≡ expects_continue (head_of whole.text)

-- they hold no head, or one with a fault of its own
abbrev pub HoldsNone : List ℕ → Type 0
HoldsNone bytes = (head : Head) → HoldsHead bytes head → ⊥

-- what the bytes say of the head
abbrev pub SeesHead : List ℕ → List HeaderSpan → HeadSeen → Type 0
SeesHead bytes spans seen.Open = (length bytes < head_limit) × (0 < length bytes → First bytes Beginning) × HoldsNone bytes
SeesHead bytes spans (seen.Bad f) = First bytes (Fault f) × HoldsNone bytes
SeesHead bytes spans (seen.Whole r framing expects) = SeesWhole bytes spans r framing expects

-- a head that was read whole, and copied
pub record IsRead (bytes : List ℕ) (r : RequestSpans) (framing : Framing) (expects : Bool) (head : Head) : Type 0 where
  pub text : RequestHead
  pub has : HasHead bytes text (drop r.len bytes)
  pub head_is : head ≡ head_of text
  pub len : r.len ≡ length (print_request text)
  pub inside : r.len ≤ length bytes
  pub framing_is : head_framing (head_of text) ≡ Ok framing
  pub expects_is : expects ≡ expects_continue (head_of text)
