-- Small runs over a machine that adds numbers up to 99: what the definitions give there.
use Rattle.std.proofs.Common.{◌≡◌, ℕ, ◌+◌, nat_lt, true, false, List, [], ◌∷◌, Option, Some, None, Result, Ok, Err, refl, arith, if◌then◌else◌}
use Rattle.cm_base.specs.declared.cause.Cause.{Cause}
use Rattle.cm_base.specs.declared.cause.Cause.TheVariants as causes
use Rattle.cm_base.specs.declared.shown.Shown.{Shown}
use Rattle.outside.specs.Clocks.{Words}
use Rattle.desk_model.specs.declared.entry.Entry.{Entry}
use Rattle.desk_model.specs.Clocks.{moment_of}
use Rattle.http_grammar.specs.Request.{Head}
use Rattle.http_grammar.specs.Fields.{expects_continue}
use Rattle.http_grammar.specs.declared.fault.HttpFault.TheVariants.{Cut}
use Rattle.http_grammar.specs.First.{IsPending}
use Rattle.cm_base.specs.declared.asked.Asked.{Asked}
use Rattle.cm_base.specs.declared.asked.Asked.TheVariants.{Write, Question}
use Rattle.talk.specs.declared.end.End.TheVariants.{Bad}
use Rattle.talk.specs.Wire.{Wire}
use Rattle.talk.specs.Served.{Kind}
use Rattle.talk.specs.Requests.{Arrived, Due, cut}
use Rattle.talk.specs.Session.{Setting, Session}
use Rattle.talk.specs.Alone.{alone_at, after_requests}

-- what is shown is a status; a reply is that, its number or 0, and whether it is the last
abbrev shown : ℕ → Shown
shown status = record { status = status; kind = []; body = []; number = None }

abbrev number_or_0 : Option ℕ → ℕ
number_or_0 None = 0
number_or_0 (Some n) = n

abbrev wire : Wire
wire = record {
  reply_text = λ a last. a.status ∷ number_or_0 a.number ∷ (if last then 1 else 0) ∷ [];
  interim_text = 100 ∷ [];
  runtime_text = 500 ∷ [];
  cause_shown = λ cause n. record { status = 409; kind = []; body = []; number = n };
  caller_of = λ head users. Ok [];
  least_of = λ head. 0;
  closes = λ head. false;
}

-- a body of one byte is a write of this number, no body a question
abbrev call_of : List ℕ → Result (Asked ℕ ℕ) Cause
call_of [] = Ok (Question 0)
call_of (b ∷ bs) = Ok (Write b)

abbrev sums : Kind ℕ ℕ ℕ
sums = record {
  next = λ s e. if nat_lt (s + e.call) 100 then Ok (s + e.call, shown 201) else Err causes.NotFound;
  answer = λ s u q. Ok (shown 200);
  number = λ s. s;
  call = λ r. call_of r.body;
  wire = wire;
}

abbrev head : Head
head = record { method = 71 ∷ []; target = []; minor = 0; fields = [] }

abbrev request : List ℕ → Arrived
request body = record { request = record { head = head; body = body }; size = 9 }

abbrev words : Words
words = record { coming = 5 ∷ 6 ∷ []; last = 7 }

abbrev at : Setting ℕ
at = alone_at 1 []

abbrev entry : Entry ℕ
entry = record { session = 0; serial = 0; user = []; moment = moment_of 5; call = 40 }

-- three turns with a refused write in the middle: one entry, three replies, and two words are gone
pub three_turns : after_requests sums at words (request [] ∷ request (70 ∷ []) ∷ request (40 ∷ []) ∷ [])
    ≡ record { journal = entry ∷ []; output = 201 ∷ 41 ∷ 0 ∷ 409 ∷ 41 ∷ 0 ∷ 200 ∷ 41 ∷ 0 ∷ []; words = record { coming = []; last = 7 } }
unfolding expects_continue
three_turns = refl

-- a session that is cut inside a head sends nothing and has no entries
pub cut_in_a_head : (input : List ℕ) → IsPending input → Due wire input [] → Session sums at 0 [] input true [] [] false false (Bad Cut)
cut_in_a_head input pending due = record {
  turns = [];
  are_requests = tt;
  are_turns = tt;
  begins = omega arith;
  held = omega arith;
  owns = refl;
  times_are = refl;
  ends = record { still_open = tt; has_fault = cut refl pending refl; due = []; is_due = due; output_is = refl };
}
