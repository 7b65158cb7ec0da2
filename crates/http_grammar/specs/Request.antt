-- A request, as its bytes have it.
use Rattle.std.specs.Prelude.{ℕ, List, map}
use Rattle.httparse.specs.Grammar.{RequestHead}
use Rattle.httparse.specs.Spans.{name_and_value}

-- a field: its name, and its value without the white space around it
abbrev pub FieldParts : Type 0
FieldParts = List ℕ × List ℕ

-- the parts of a head; minor is 0 for HTTP/1.0 and 1 for HTTP/1.1
pub record Head : Type 0 where
  pub method : List ℕ
  pub target : List ℕ
  pub minor : ℕ
  pub fields : List FieldParts

-- a request: its head, and its body without the framing
pub record Request : Type 0 where
  pub head : Head
  pub body : List ℕ

-- the parts of a head that was read by the grammar of heads
abbrev pub head_of : RequestHead → Head
head_of h = record { method = h.method; target = h.target; minor = h.minor; fields = map name_and_value h.fields }
