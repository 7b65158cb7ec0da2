-- One step, by what was read.
use Rattle.std.proofs.Common.{◌≡◌, ◌≢◌, ℕ, ◌≤◌, arith, IfSome, Bool, List, ◌++◌, Option, Some, None, Ok, Err, refl, sym, subst, inl, inr}
use Rattle.outside.specs.Outside.{SourceTold, SinkTold}
use Rattle.cm_base.specs.declared.user.User.{User}
use Rattle.http_grammar.specs.declared.fault.HttpFault.{HttpFault}
use Rattle.http_grammar.specs.declared.fault.HttpFault.TheVariants.{BadHead, LongHead, LongBody, BadLength, Coding, Cut}
use Rattle.http_grammar.specs.Request.{Head, Request}
use Rattle.http_grammar.specs.First.{First, Fault}
use Rattle.http_wire.specs.Answers.{ReadsRequest, NoneDue, BadAnswer}
use Rattle.http_wire.specs.Buffers.{BufferTold}
use Rattle.http_wire.specs.declared.fault.WireStop.TheVariants as stops
use Rattle.http_wire.specs.declared.incoming.Incoming.TheVariants as incoming
use Rattle.talk.specs.declared.end.End.{End}
use Rattle.talk.specs.declared.end.End.TheVariants.{Ended, Bad, ReadFault, WriteFault, Starved, Unkept}
use Rattle.talk.specs.Served.{Kind}
use Rattle.talk.specs.Talked.{IfUnkept}
use Rattle.talk.specs.Wire.{Wire}
use Rattle.talk.specs.Steps.{Standing, SentOrLost, Refuses, SendsContinue, AnswersRequest, Steps}
use Rattle.talk.proofs.Turns.{stays-put}

-- what the last write changed nothing of
pub step-source : {S C Q : Type 0} (kind : Kind S C Q) (users : List User) (before after : BufferTold) (source mid source' : SourceTold) (old sink new : SinkTold) (a b : Standing S C) (end : Option End)
    → source' ≡ mid → sink ≡ old → Steps kind users before source a sink after mid b new end → Steps kind users before source a old after source' b new end
step-source kind users before after source mid source' old sink new a b end e f step =
    subst (λ s. Steps kind users before source a old after s b new end) (sym e) (subst (λ k. Steps kind users before source a k after mid b new end) f step)

-- a head that expects the interim reply
pub step-interim : {S C Q : Type 0} (kind : Kind S C Q) (users : List User) (before after : BufferTold) (source source' : SourceTold) (old new : SinkTold) (a : Standing S C) (head : Head) (end : Option End)
    → ReadsRequest before after source source' (Ok (incoming.Head head)) → SendsContinue kind.wire.interim_text old new end → Steps kind users before source a old after source' a new end
step-interim kind users before after source source' old new a head None x out = record {
  got = x.got;
  gave = x.gave;
  does = inl (record { interim = record { head = head; holds = x.answer.0; expects = x.answer.1; unanswered = x.answer.2 }; after_is = x.answer.3; same = refl; took = out });
  later = omega arith;
}
step-interim kind users before after source source' old new a head (Some WriteFault) x out = record {
  got = x.got;
  gave = x.gave;
  does = inl (record { head = head; holds = x.answer.0; expects = x.answer.1; unanswered = x.answer.2 }, refl, out);
  later = omega arith;
}
step-interim kind users before after source source' old new a head (Some Ended) x out = absurd out
step-interim kind users before after source source' old new a head (Some (Bad fault)) x out = absurd out
step-interim kind users before after source source' old new a head (Some ReadFault) x out = absurd out
step-interim kind users before after source source' old new a head (Some Starved) x out = absurd out
step-interim kind users before after source source' old new a head (Some Unkept) x out = absurd out

-- a whole request
pub step-request : {S C Q : Type 0} (kind : Kind S C Q) (users : List User) (before after : BufferTold) (source source' : SourceTold) (old new : SinkTold) (a b : Standing S C) (r : Request) (end : Option End)
    → ReadsRequest before after source source' (Ok (incoming.Body r)) → AnswersRequest kind users r a old b new end → a.sure ≤ b.sure → Steps kind users before source a old after source' b new end
step-request kind users before after source source' old new a b r None x out later = record {
  got = x.got;
  gave = x.gave;
  does = inr (record { request = r; size = x.answer.0; first = x.answer.1; none_due = x.answer.2; after_is = x.answer.3; answers = out });
  later = later;
}
step-request kind users before after source source' old new a b r (Some Ended) x out later = record {
  got = x.got;
  gave = x.gave;
  does = inl (record { request = r; size = x.answer.0; first = x.answer.1; none_due = x.answer.2; after_is = x.answer.3; answers = out });
  later = later;
}
step-request kind users before after source source' old new a b r (Some WriteFault) x out later = record {
  got = x.got;
  gave = x.gave;
  does = inr (inl (record { request = r; size = x.answer.0; first = x.answer.1; none_due = x.answer.2; after_is = x.answer.3; answers = out }));
  later = later;
}
step-request kind users before after source source' old new a b r (Some Starved) x out later = record { got = x.got; gave = x.gave; does = out; later = later }
step-request kind users before after source source' old new a b r (Some Unkept) x out later = record {
  got = x.got;
  gave = x.gave;
  does = record { request = r; size = x.answer.0; first = x.answer.1; none_due = x.answer.2; after_is = x.answer.3; answers = out };
  later = later;
}
step-request kind users before after source source' old new a b r (Some ReadFault) x out later = absurd out
step-request kind users before after source source' old new a b r (Some (Bad fault)) x out later = absurd out

-- the end of the input at a border
pub step-over : {S C Q : Type 0} (kind : Kind S C Q) (users : List User) (before after : BufferTold) (source source' : SourceTold) (old new : SinkTold) (a : Standing S C)
    → ReadsRequest before after source source' (Ok incoming.Over) → new ≡ old → Steps kind users before source a old after source' a new (Some Ended)
step-over kind users before after source source' old new a x same = record { got = x.got; gave = x.gave; does = inr (x.answer.0, x.answer.1, refl, same); later = omega arith }

-- a fault of the bytes
bad-front : (answered : Bool) (bytes : List ℕ) (source : SourceTold) (fault : HttpFault) → fault ≢ Cut → BadAnswer answered bytes source fault → First bytes (Fault fault) × NoneDue answered bytes
bad-front answered bytes source BadHead other bad = bad
bad-front answered bytes source LongHead other bad = bad
bad-front answered bytes source LongBody other bad = bad
bad-front answered bytes source BadLength other bad = bad
bad-front answered bytes source Coding other bad = bad
bad-front answered bytes source Cut other bad = absurd (other refl)

pub step-bad : {S C Q : Type 0} (kind : Kind S C Q) (users : List User) (before after : BufferTold) (source source' : SourceTold) (old new : SinkTold) (a : Standing S C) (fault : HttpFault) (end : End)
    → ReadsRequest before after source source' (Err (stops.Bad fault)) → Refuses kind.wire fault old new end → Steps kind users before source a old after source' a new (Some end)
step-bad kind users before after source source' old new a fault (Bad shown) x out = record {
  got = x.got;
  gave = x.gave;
  does = rw out.0 (x.answer, refl, out.1);
  later = omega arith;
}
step-bad kind users before after source source' old new a fault WriteFault x out =
    let f = bad-front before.answered (before.bytes ++ x.got) source' fault out.0 x.answer in
    record { got = x.got; gave = x.gave; does = inr (inr (fault, f.0, f.1, refl, out.1)); later = omega arith }
step-bad kind users before after source source' old new a fault Starved x out = record { got = x.got; gave = x.gave; does = (stays-put a.known a.words, out.1); later = omega arith }
step-bad kind users before after source source' old new a fault Ended x out = absurd out
step-bad kind users before after source source' old new a fault ReadFault x out = absurd out
step-bad kind users before after source source' old new a fault Unkept x out = absurd out

-- a read that failed, and want of memory
pub step-read-fault : {S C Q : Type 0} (kind : Kind S C Q) (users : List User) (before after : BufferTold) (source source' : SourceTold) (old new : SinkTold) (a : Standing S C)
    → ReadsRequest before after source source' (Err stops.ReadFault) → new ≡ old → Steps kind users before source a old after source' a new (Some ReadFault)
step-read-fault kind users before after source source' old new a x same = record { got = x.got; gave = x.gave; does = (x.answer.0, x.answer.1, x.answer.2, refl, same); later = omega arith }

pub step-starved : {S C Q : Type 0} (kind : Kind S C Q) (users : List User) (before after : BufferTold) (source source' : SourceTold) (old new : SinkTold) (a : Standing S C)
    → ReadsRequest before after source source' (Err stops.Memory) → SentOrLost old new kind.wire.runtime_text → Steps kind users before source a old after source' a new (Some Starved)
step-starved kind users before after source source' old new a x out = record { got = x.got; gave = x.gave; does = (stays-put a.known a.words, out); later = omega arith }

-- where a fault of the bytes is answered, or an interim reply is sent, no reply waits for the keeper
pub refuses-kept : (w : Wire) (fault : HttpFault) (old new : SinkTold) (end : End) (fact : Type 0) → Refuses w fault old new end → IfUnkept end fact
refuses-kept w fault old new Ended fact out = tt
refuses-kept w fault old new (Bad shown) fact out = tt
refuses-kept w fault old new ReadFault fact out = tt
refuses-kept w fault old new WriteFault fact out = tt
refuses-kept w fault old new Starved fact out = tt
refuses-kept w fault old new Unkept fact out = absurd out

pub continues-kept : (text : List ℕ) (old new : SinkTold) (end : Option End) (fact : Type 0) → SendsContinue text old new end → IfSome end (λ e. IfUnkept e fact)
continues-kept text old new None fact out = tt
continues-kept text old new (Some Ended) fact out = tt
continues-kept text old new (Some (Bad shown)) fact out = tt
continues-kept text old new (Some ReadFault) fact out = tt
continues-kept text old new (Some WriteFault) fact out = tt
continues-kept text old new (Some Starved) fact out = tt
continues-kept text old new (Some Unkept) fact out = absurd out
