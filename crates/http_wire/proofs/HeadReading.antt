-- The turns of the loop that reads a head.
use Rattle.std.proofs.Common.{◌≡◌, ◌++◌, ◌∙◌, ◌≤◌, ◌<◌, ℕ, List, [], ◌∷◌, length, true, false, Ok, Err, Result, Option, Some, None, inl, inr, refl, ap, subst, append_assoc, append-nil, length-append, arith}
use Rattle.std.specs.Prelude.{⊤, IfOk}
use Rattle.httparse.specs.declared.spans.HeaderSpan.{HeaderSpan}
use Rattle.outside.specs.Outside.{SourceTold, Gave}
use Rattle.outside.proofs.Known.{Gave-then}
use Rattle.http_grammar.specs.First.{First, Fault}
use Rattle.http_grammar.specs.declared.fault.HttpFault.{HttpFault}
use Rattle.http_grammar.specs.declared.fault.HttpFault.TheVariants.{BadHead, LongHead, LongBody, BadLength, Coding, Cut}
use Rattle.http_grammar.proofs.NeverCut.{first_never_cut}
use Rattle.http_wire.specs.Windows.{More}
use Rattle.http_wire.specs.Seen.{SeesHead, HoldsNone}
use Rattle.http_wire.specs.HeadAnswers.{Looks, BadHeadAnswer, HeadAnswer, ReadsHead}
use Rattle.http_wire.specs.declared.fault.WireStop.{WireStop}
use Rattle.http_wire.specs.declared.fault.WireStop.TheVariants.{Bad, ReadFault, Memory}
use Rattle.http_wire.specs.declared.heads.HeadSeen.{HeadSeen}
use Rattle.http_wire.specs.declared.heads.HeadSeen.TheVariants as seen
use Rattle.http_wire.specs.declared.heads.Framed.{Framed}

-- a fault of the bytes is an answer
pub bad_answer : (over : Type 0) (bytes : List ℕ) (f : HttpFault) → First bytes (Fault f) × HoldsNone bytes → BadHeadAnswer over bytes f
bad_answer over bytes Cut x = absurd (first_never_cut bytes x.0)
bad_answer over bytes BadHead x = x
bad_answer over bytes LongHead x = x
bad_answer over bytes LongBody x = x
bad_answer over bytes BadLength x = x
bad_answer over bytes Coding x = x

pub looks_of : (bytes : List ℕ) (spans : List HeaderSpan) (s : HeadSeen) → SeesHead bytes spans s → Looks bytes spans s
looks_of bytes spans seen.Open x = x.0
looks_of bytes spans (seen.Bad f) x = x
looks_of bytes spans (seen.Whole r framing expects) x = x

pub looks_of_ok : {E : Type 0} (bytes : List ℕ) (spans : List HeaderSpan) (r : Result HeadSeen E) → IfOk r (λ s. SeesHead bytes spans s) → IfOk r (λ s. Looks bytes spans s)
looks_of_ok bytes spans (Ok s) x = looks_of bytes spans s x
looks_of_ok bytes spans (Err e) x = x

pub cut_answer : (bytes : List ℕ) (spans : List HeaderSpan) → SeesHead bytes spans seen.Open → (bytes ≡ [] → ⊥) → BadHeadAnswer ⊤ bytes Cut
cut_answer [] spans x some = absurd (some refl)
cut_answer (b ∷ bytes) spans x some = (x.1 (omega arith), x.2, tt)

pub fault_answer : (bytes : List ℕ) (spans : List HeaderSpan) → SeesHead bytes spans seen.Open → HeadAnswer ⊥ ⊤ bytes spans (Err ReadFault)
fault_answer [] spans x = (inl refl, x.2, tt)
fault_answer (b ∷ bytes) spans x = (inr (x.1 (omega arith)), x.2, tt)

weaker_bad : (P Q : Type 0) (bytes : List ℕ) (f : HttpFault) → (P → Q) → BadHeadAnswer P bytes f → BadHeadAnswer Q bytes f
weaker_bad P Q bytes Cut w x = (x.0, x.1, w x.2)
weaker_bad P Q bytes BadHead w x = x
weaker_bad P Q bytes LongHead w x = x
weaker_bad P Q bytes LongBody w x = x
weaker_bad P Q bytes BadLength w x = x
weaker_bad P Q bytes Coding w x = x

pub weaker_answer : (P Q R S : Type 0) (bytes : List ℕ) (spans : List HeaderSpan) (r : Result (Option Framed) WireStop) → (P → Q) → (R → S)
    → HeadAnswer P R bytes spans r → HeadAnswer Q S bytes spans r
weaker_answer P Q R S bytes spans (Ok (Some f)) v w x = x
weaker_answer P Q R S bytes spans (Ok None) v w x = (x.0, v x.1)
weaker_answer P Q R S bytes spans (Err (Bad f)) v w x = weaker_bad P Q bytes f v x
weaker_answer P Q R S bytes spans (Err ReadFault) v w x = (x.0, x.1, w x.2)
weaker_answer P Q R S bytes spans (Err Memory) v w x = tt

-- what came before this turn, and what the window holds
pub record Sofar (before now : List ℕ) (old mid : SourceTold) : Type 0 where
  pub got : List ℕ
  pub bytes : now ≡ before ++ got
  pub gave : Gave old mid got

pub sofar : {before now : List ℕ} {old mid : SourceTold} → ((got : List ℕ) × (now ≡ before ++ got) × Gave old mid got) → Sofar before now old mid
sofar (got, e, g) = record { got = got; bytes = e; gave = g }

-- an answer before a read
pub answered : (before now : List ℕ) (spans : List HeaderSpan) (old mid : SourceTold) (r : Result (Option Framed) WireStop) → Sofar before now old mid
    → HeadAnswer ⊥ ⊥ now spans r → ReadsHead before now spans old mid r
answered before now spans old mid r s x = record {
  got = s.got;
  gave = s.gave;
  after_is = s.bytes;
  answer = weaker_answer ⊥ _ ⊥ _ now spans r (λ z. absurd z) (λ z. absurd z) x;
}

-- an answer at the end of the source
pub ended : (before now after : List ℕ) (spans : List HeaderSpan) (old mid new : SourceTold) (r : Result (Option Framed) WireStop) → Sofar before now old mid
    → More now after mid new (Ok false) → HeadAnswer ⊤ ⊥ after spans r → ReadsHead before after spans old new r
ended before now after spans old mid new r s (same, e, gave) x = record {
  got = s.got;
  gave = subst (Gave old new) (append-nil s.got) (Gave-then old mid new s.got [] s.gave gave);
  after_is = same ∙ s.bytes;
  answer = weaker_answer ⊤ _ ⊥ _ after spans r (λ _. e) (λ z. absurd z) x;
}

-- an answer at a failed read
pub faulted : (before now after : List ℕ) (spans : List HeaderSpan) (old mid new : SourceTold) (r : Result (Option Framed) WireStop) → Sofar before now old mid
    → More now after mid new (Err ReadFault) → HeadAnswer ⊥ ⊤ after spans r → ReadsHead before after spans old new r
faulted before now after spans old mid new r s (same, rose, gave) x = record {
  got = s.got;
  gave = subst (Gave old new) (append-nil s.got) (Gave-then old mid new s.got [] s.gave gave);
  after_is = same ∙ s.bytes;
  answer = weaker_answer ⊥ _ ⊤ _ after spans r (λ z. absurd z) (λ _. (let f : old.faults ≤ mid.faults = s.gave.later in omega arith)) x;
}

-- want of memory at a read
pub wanted : (before now after : List ℕ) (spans : List HeaderSpan) (old mid new : SourceTold) (stop : WireStop) → Sofar before now old mid
    → More now after mid new (Err stop) → (stop ≡ ReadFault → ⊥) → ReadsHead before after spans old new (Err stop)
wanted before now after spans old mid new (Bad f) s m other = absurd m
wanted before now after spans old mid new ReadFault s m other = absurd (other refl)
wanted before now after spans old mid new Memory s (same, gave) other = record {
  got = s.got;
  gave = subst (Gave old new) (append-nil s.got) (Gave-then old mid new s.got [] s.gave gave);
  after_is = same ∙ s.bytes;
  answer = tt;
}

pub went_on : (before now after : List ℕ) (old mid new : SourceTold) → Sofar before now old mid
    → More now after mid new (Ok true) → (got : List ℕ) × (after ≡ before ++ got) × Gave old new got
went_on before now after old mid new s (more, e, some, gave) =
    (s.got ++ more, e ∙ ap (λ x. x ++ more) s.bytes ∙ append_assoc before s.got more, Gave-then old mid new s.got more s.gave gave)

pub longer : (now after : List ℕ) (mid new : SourceTold) → More now after mid new (Ok true) → length now < length after
longer now after mid new (more, e, some, gave) = omega (arith, ap length e, length-append now more)
