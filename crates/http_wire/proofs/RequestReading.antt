-- A request of its head and its body.
use Rattle.std.proofs.Common.{◌≡◌, ◌++◌, ◌∙◌, ◌≤◌, ◌<◌, ◌+◌, ℕ, List, [], ◌∷◌, length, take, drop, true, false, Bool, Ok, Err, Result, Option, Some, None, inl, inr, ◌⊎◌, refl, sym, ap, subst, append_assoc, append-nil, arith}
use Rattle.std.specs.Prelude.{◌==◌, nat_le, nat_lt, is_ok, ⊤, if◌then◌else◌, codes, MatchResult}
use Rattle.std.proofs.lemmas.Bool.{le-leb, cond-true, cond-false}
use Rattle.std.proofs.lemmas.Bool.Decides.{nat_tests}
use Rattle.std.proofs.lemmas.List.{drop-append-le, drop-drop}
use Rattle.httparse.specs.Grammar.{print_request}
use Rattle.httparse.specs.declared.spans.HeaderSpan.{HeaderSpan}
use Rattle.httparse.specs.declared.spans.RequestSpans.{RequestSpans}
use Rattle.outside.specs.Outside.{SourceTold}
use Rattle.outside.proofs.Known.{Gave-then}
use Rattle.http_grammar.specs.Limits.{body_limit}
use Rattle.http_grammar.specs.Request.{Head, Request, head_of}
use Rattle.http_grammar.specs.Fields.{head_framing, framing, by_length, by_coding, sized, length_of_value, same_word, has_good_host, values_named, expects_continue}
use Rattle.http_grammar.specs.Chunks.{BodyFront, unfinished, ends, broken, Body, sized_body}
use Rattle.http_grammar.specs.First.{Beginning, Waits, Whole, Fault, First, whole_head, Follows, front_of, IsPending, HoldsHead}
use Rattle.http_grammar.specs.declared.fault.HttpFault.{HttpFault}
use Rattle.http_grammar.specs.declared.fault.HttpFault.TheVariants.{BadHead, LongHead, LongBody, BadLength, Coding, Cut}
use Rattle.http_grammar.specs.declared.framing.Framing.{Framing}
use Rattle.http_grammar.specs.declared.framing.Framing.TheVariants.{Sized, Chunked}
use Rattle.http_grammar.proofs.OneFront.{HasHead-append, held_unique}
use Rattle.http_wire.specs.Seen.{HeadAt, SeesWhole, HoldsNone, IsRead}
use Rattle.http_wire.specs.HeadAnswers.{ReadsHead}
use Rattle.http_wire.specs.Bodies.{Fills, ReadsBody}
use Rattle.http_wire.specs.Buffers.{BufferTold}
use Rattle.http_wire.specs.Answers.{NoneDue, ReadsRequest}
use Rattle.http_wire.specs.declared.fault.WireStop.{WireStop}
use Rattle.http_wire.specs.declared.fault.WireStop.TheVariants.{Bad, ReadFault, Memory}
use Rattle.http_wire.specs.declared.heads.Framed.{Framed}
use Rattle.http_wire.specs.declared.incoming.Incoming.{Incoming}
use Rattle.http_wire.specs.declared.incoming.Incoming.TheVariants as incoming

-- ---- bodies of a stated length

sized_short : (n : ℕ) (text : List ℕ) → length text < n → sized_body n text ≡ unfinished
sized_short n text few = cond-false _ _ _ (short (length text) n few)
  where
    short : (m k : ℕ) → m < k → nat_le k m ≡ false
    short m k less = grind (arith, nat_tests)

pub sized_reads : (before after body : List ℕ) (n : ℕ) (old new : SourceTold) (r : Result (Unit {0}) WireStop) (start : List ℕ) → start ≡ []
    → Fills before after start body n old new r → ReadsBody (Sized n) before after body old new r
sized_reads before after body n old new (Ok u) start e f =
    let b : body ≡ take n (before ++ f.got) = f.answer.2 ∙ ap (λ (t : List ℕ). t ++ take n (before ++ f.got)) e in
    record {
      got = f.got;
      gave = f.gave;
      answer = (n, sym (cond-true _ _ _ (le-leb _ _ f.answer.0) ∙ ap (λ (t : List ℕ). ends t n) (sym b)), f.answer.1);
    }
sized_reads before after body n old new (Err (Bad Cut)) start e f =
    record { got = f.got; gave = f.gave; answer = (sym (sized_short n (before ++ f.got) f.answer.0), f.answer.1) }
sized_reads before after body n old new (Err (Bad BadHead)) start e f = absurd f.answer
sized_reads before after body n old new (Err (Bad LongHead)) start e f = absurd f.answer
sized_reads before after body n old new (Err (Bad LongBody)) start e f = absurd f.answer
sized_reads before after body n old new (Err (Bad BadLength)) start e f = absurd f.answer
sized_reads before after body n old new (Err (Bad Coding)) start e f = absurd f.answer
sized_reads before after body n old new (Err ReadFault) start e f =
    record { got = f.got; gave = f.gave; answer = (sym (sized_short n (before ++ f.got) f.answer.0), f.answer.1) }
sized_reads before after body n old new (Err Memory) start e f = record { got = f.got; gave = f.gave; answer = tt }

-- a stated length keeps within the limit
abbrev IsShort : Result Framing HttpFault → Type 0
IsShort (Ok (Sized n)) = n ≤ body_limit
IsShort (Ok Chunked) = ⊤
IsShort (Err f) = ⊤

either : (t : Bool) (a b : Result Framing HttpFault) → IsShort a → IsShort b → IsShort (if t then a else b)
either true a b x y = x
either false a b x y = y

sized_is_short : (n : Option ℕ) → IsShort (sized n)
unfolding sized
sized_is_short None = tt
sized_is_short (Some n) = by_limit (nat_lt body_limit n) refl
  where
    by_limit : (t : Bool) → nat_lt body_limit n ≡ t → IsShort (if t then Err LongBody else Ok (Sized n))
    by_limit true e = tt
    by_limit false e = grind (arith, nat_tests, e)

by_length_short : (values : List (List ℕ)) → IsShort (by_length values)
by_length_short [] = omega arith
by_length_short (v ∷ []) = sized_is_short (length_of_value v)
by_length_short (v ∷ w ∷ values) = tt

by_coding_short : (values : List (List ℕ)) → IsShort (by_coding values)
by_coding_short [] = tt
by_coding_short (v ∷ []) = either (same_word v (codes "chunked")) (Ok Chunked) (Err Coding) tt tt
by_coding_short (v ∷ w ∷ values) = tt

framing_short : (minor : ℕ) (codings lengths : List (List ℕ)) → IsShort (framing minor codings lengths)
framing_short minor [] lengths = by_length_short lengths
framing_short minor (c ∷ codings) [] = either (minor == 0) (Err BadLength) (by_coding (c ∷ codings)) tt (by_coding_short (c ∷ codings))
framing_short minor (c ∷ codings) (n ∷ lengths) = tt

head_short : (h : Head) → IsShort (head_framing h)
unfolding head_framing
head_short h =
    either (has_good_host h.minor (values_named (codes "host") h.fields)) (framing h.minor (values_named (codes "transfer-encoding") h.fields) (values_named (codes "content-length") h.fields)) (Err BadHead)
    (framing_short h.minor (values_named (codes "transfer-encoding") h.fields) (values_named (codes "content-length") h.fields)) tt

pub sized_within : (h : Head) (f : Framing) (n : ℕ) → head_framing h ≡ Ok f → f ≡ Sized n → n ≤ body_limit
sized_within h f n e s = subst IsShort (e ∙ ap Ok s) (head_short h)

-- ---- a head

-- what the spans cover is one head
pub same_head : (text : List ℕ) (spans : List HeaderSpan) (r : RequestSpans) (h k : Head) → HeadAt text spans r h → HeadAt text spans r k → h ≡ k
same_head text spans r h k x y = λ i. record {
  method = (sym x.method ∙ y.method) i;
  target = (sym x.target ∙ y.target) i;
  minor = (sym x.minor ∙ y.minor) i;
  fields = (sym x.fields ∙ y.fields) i;
}

pub is_read : (bytes : List ℕ) (spans : List HeaderSpan) (f : Framed) (head : Head) → (s : SeesWhole bytes spans f.head f.framing f.expects)
    → HeadAt (take f.head.len bytes) spans f.head head → IsRead bytes f.head f.framing f.expects head
is_read bytes spans f head s at = record {
  text = s.whole.text;
  has = s.whole.has;
  head_is = same_head (take f.head.len bytes) spans f.head head (head_of s.whole.text) at s.whole.at;
  len = s.whole.len;
  inside = s.whole.inside;
  framing_is = s.framing_is;
  expects_is = s.expects_is;
}

holds : (bytes more : List ℕ) (r : RequestSpans) (framing : Framing) (expects : Bool) (head : Head) → IsRead bytes r framing expects head → HoldsHead (bytes ++ more) head
holds bytes more r framing expects head x = record {
  text = x.text;
  rest = drop r.len bytes ++ more;
  has = HasHead-append bytes more x.text (drop r.len bytes) x.has;
  head_is = x.head_is;
  good = ap ok (ap head_framing x.head_is ∙ x.framing_is);
}
  where
    ok : Result Framing HttpFault → Bool
    ok a = is_ok a

-- the head is answered
pub head_answer : (before : BufferTold) (mid : List ℕ) (spans : List HeaderSpan) (old new : SourceTold) (f : Framed) (head : Head)
    → ReadsHead before.bytes mid spans old new (Ok (Some f)) → IsRead mid f.head f.framing f.expects head → f.expects ≡ true → before.answered ≡ false
    → ReadsRequest before (record { bytes = mid; answered = true }) old new (Ok (incoming.Head head))
head_answer before mid spans old new f head r x e a = record {
  got = r.got;
  gave = r.gave;
  answer = (
    subst (λ (t : List ℕ). HoldsHead t head) (append-nil mid ∙ r.after_is) (holds mid [] f.head f.framing f.expects head x),
    ap expects_continue x.head_is ∙ sym x.expects_is ∙ e,
    a,
    λ i. record { bytes = r.after_is i; answered = true },
  );
}

-- ---- a head and its body

none_due : (answered : Bool) (bytes more : List ℕ) (r : RequestSpans) (framing : Framing) (expects : Bool) (head : Head) → IsRead bytes r framing expects head
    → (expects ≡ true → answered ≡ true) → NoneDue answered (bytes ++ more)
none_due answered bytes more r framing expects head x due other held wants =
    due (x.expects_is ∙ sym (ap expects_continue x.head_is) ∙ ap expects_continue (held_unique (bytes ++ more) head other (holds bytes more r framing expects head x) held) ∙ wants)

-- what the body makes of the request
first_of : (bytes more : List ℕ) (r : RequestSpans) (framing : Framing) (expects : Bool) (head : Head) (front : BodyFront) → IsRead bytes r framing expects head
    → Body framing (drop r.len bytes ++ more) front → First (bytes ++ more) (front_of head r.len front)
first_of bytes more r framing expects head front x b =
    whole_head x.text (drop r.len bytes ++ more) (HasHead-append bytes more x.text (drop r.len bytes) x.has)
    (subst (λ (f : Result Framing HttpFault). Follows f (head_of x.text) (length (print_request x.text)) (drop r.len bytes ++ more) (front_of head r.len front)) (sym x.framing_is)
    (front, b, ap (λ (h : Head). front_of h r.len front) x.head_is ∙ ap (λ (n : ℕ). front_of (head_of x.text) n front) x.len))

pending : (bytes : List ℕ) (head : Head) (n : ℕ) → First bytes (front_of head n unfinished) → IsPending bytes
pending bytes head n f = by_wait (expects_continue head) f
  where
    by_wait : (t : Bool) → First bytes (if t then Waits head else Beginning) → IsPending bytes
    by_wait true f = inr (head, f)
    by_wait false f = inl f

-- all that came, by the head's part and the body's
joined : (before mid got got2 : List ℕ) → mid ≡ before ++ got → mid ++ got2 ≡ before ++ (got ++ got2)
joined before mid got got2 e = ap (λ (t : List ℕ). t ++ got2) e ∙ append_assoc before got got2

pub whole_answer : (before : BufferTold) (mid after : List ℕ) (body : List ℕ) (spans : List HeaderSpan) (old middle new : SourceTold) (f : Framed) (head : Head)
    → ReadsHead before.bytes mid spans old middle (Ok (Some f)) → IsRead mid f.head f.framing f.expects head → (f.expects ≡ true → before.answered ≡ true)
    → ReadsBody f.framing (drop f.head.len mid) after body middle new (Ok tt)
    → ReadsRequest before (record { bytes = after; answered = false }) old new (Ok (incoming.Body (record { head = head; body = body })))
whole_answer before mid after body spans old middle new f head r x due b =
    let (n, w, a) = b.answer in
    let all : mid ++ b.got ≡ before.bytes ++ (r.got ++ b.got) = joined before.bytes mid r.got b.got r.after_is in
    let rest : drop f.head.len (mid ++ b.got) ≡ drop f.head.len mid ++ b.got = drop-append-le f.head.len mid b.got x.inside in
    let last : after ≡ drop (f.head.len + n) (before.bytes ++ (r.got ++ b.got)) =
    a ∙ sym (ap (drop n) rest) ∙ drop-drop n f.head.len (mid ++ b.got) ∙ ap (drop (f.head.len + n)) all in
    record {
      got = r.got ++ b.got;
      gave = Gave-then old middle new r.got b.got r.gave b.gave;
      answer = (
        f.head.len + n,
        subst (λ (t : List ℕ). First t (Whole (record { head = head; body = body }) (f.head.len + n))) all (first_of mid b.got f.head f.framing f.expects head (ends body n) x w),
        subst (NoneDue before.answered) all (none_due before.answered mid b.got f.head f.framing f.expects head x due),
        λ i. record { bytes = last i; answered = false },
      );
    }

faulty : (before : BufferTold) (mid got got2 : List ℕ) (f : Framed) (head : Head) (fault : HttpFault) → mid ≡ before.bytes ++ got
    → IsRead mid f.head f.framing f.expects head → (f.expects ≡ true → before.answered ≡ true)
    → Body f.framing (drop f.head.len mid ++ got2) (broken fault) → First (before.bytes ++ (got ++ got2)) (Fault fault) × NoneDue before.answered (before.bytes ++ (got ++ got2))
faulty before mid got got2 f head fault e x due w =
    let all : mid ++ got2 ≡ before.bytes ++ (got ++ got2) = joined before.bytes mid got got2 e in (
      subst (λ (t : List ℕ). First t (Fault fault)) all (first_of mid got2 f.head f.framing f.expects head (broken fault) x w),
      subst (NoneDue before.answered) all (none_due before.answered mid got2 f.head f.framing f.expects head x due),
    )

pub broken_answer : (before after : BufferTold) (mid rest : List ℕ) (body : List ℕ) (spans : List HeaderSpan) (old middle new : SourceTold) (f : Framed) (head : Head) (stop : WireStop)
    → ReadsHead before.bytes mid spans old middle (Ok (Some f)) → IsRead mid f.head f.framing f.expects head → (f.expects ≡ true → before.answered ≡ true)
    → ReadsBody f.framing (drop f.head.len mid) rest body middle new (Err stop) → ReadsRequest before after old new (Err stop)
broken_answer before after mid rest body spans old middle new f head (Bad Cut) r x due b =
    let all : mid ++ b.got ≡ before.bytes ++ (r.got ++ b.got) = joined before.bytes mid r.got b.got r.after_is in
    record {
      got = r.got ++ b.got;
      gave = Gave-then old middle new r.got b.got r.gave b.gave;
      answer = (
        subst IsPending all (pending (mid ++ b.got) head f.head.len (first_of mid b.got f.head f.framing f.expects head unfinished x b.answer.0)),
        subst (NoneDue before.answered) all (none_due before.answered mid b.got f.head f.framing f.expects head x due),
        b.answer.1,
      );
    }
broken_answer before after mid rest body spans old middle new f head (Bad BadHead) r x due b = record {
  got = r.got ++ b.got;
  gave = Gave-then old middle new r.got b.got r.gave b.gave;
  answer = faulty before mid r.got b.got f head BadHead r.after_is x due b.answer;
}
broken_answer before after mid rest body spans old middle new f head (Bad LongHead) r x due b = record {
  got = r.got ++ b.got;
  gave = Gave-then old middle new r.got b.got r.gave b.gave;
  answer = faulty before mid r.got b.got f head LongHead r.after_is x due b.answer;
}
broken_answer before after mid rest body spans old middle new f head (Bad LongBody) r x due b = record {
  got = r.got ++ b.got;
  gave = Gave-then old middle new r.got b.got r.gave b.gave;
  answer = faulty before mid r.got b.got f head LongBody r.after_is x due b.answer;
}
broken_answer before after mid rest body spans old middle new f head (Bad BadLength) r x due b = record {
  got = r.got ++ b.got;
  gave = Gave-then old middle new r.got b.got r.gave b.gave;
  answer = faulty before mid r.got b.got f head BadLength r.after_is x due b.answer;
}
broken_answer before after mid rest body spans old middle new f head (Bad Coding) r x due b = record {
  got = r.got ++ b.got;
  gave = Gave-then old middle new r.got b.got r.gave b.gave;
  answer = faulty before mid r.got b.got f head Coding r.after_is x due b.answer;
}
broken_answer before after mid rest body spans old middle new f head ReadFault r x due b =
    let all : mid ++ b.got ≡ before.bytes ++ (r.got ++ b.got) = joined before.bytes mid r.got b.got r.after_is in
    record {
      got = r.got ++ b.got;
      gave = Gave-then old middle new r.got b.got r.gave b.gave;
      answer = (
        inr (subst IsPending all (pending (mid ++ b.got) head f.head.len (first_of mid b.got f.head f.framing f.expects head unfinished x b.answer.0))),
        subst (NoneDue before.answered) all (none_due before.answered mid b.got f.head f.framing f.expects head x due),
        (let g : old.faults ≤ middle.faults = r.gave.later in omega (arith, b.answer.1)),
      );
    }
broken_answer before after mid rest body spans old middle new f head Memory r x due b =
    record { got = r.got ++ b.got; gave = Gave-then old middle new r.got b.got r.gave b.gave; answer = tt }

-- ---- no head

none_held : (answered : Bool) (bytes : List ℕ) → HoldsNone bytes → NoneDue answered bytes
none_held answered bytes none head held wants = absurd (none head held)

pub no_head : (before after : BufferTold) (mid : List ℕ) (spans : List HeaderSpan) (old new : SourceTold)
    → ReadsHead before.bytes mid spans old new (Ok None) → ReadsRequest before after old new (Ok incoming.Over)
no_head before after mid spans old new r = record { got = r.got; gave = r.gave; answer = (sym r.after_is ∙ r.answer.0, r.answer.1) }

bad_head : (before : BufferTold) (mid got : List ℕ) (fault : HttpFault) → mid ≡ before.bytes ++ got → First mid (Fault fault) × HoldsNone mid
    → First (before.bytes ++ got) (Fault fault) × NoneDue before.answered (before.bytes ++ got)
bad_head before mid got fault e x =
    (subst (λ (t : List ℕ). First t (Fault fault)) e x.0, subst (NoneDue before.answered) e (none_held before.answered mid x.1))

pub no_request : (before after : BufferTold) (mid : List ℕ) (spans : List HeaderSpan) (old new : SourceTold) (stop : WireStop)
    → ReadsHead before.bytes mid spans old new (Err stop) → ReadsRequest before after old new (Err stop)
no_request before after mid spans old new (Bad Cut) r = record {
  got = r.got;
  gave = r.gave;
  answer = (subst IsPending r.after_is (inl r.answer.0), subst (NoneDue before.answered) r.after_is (none_held before.answered mid r.answer.1), r.answer.2);
}
no_request before after mid spans old new (Bad BadHead) r = record { got = r.got; gave = r.gave; answer = bad_head before mid r.got BadHead r.after_is r.answer }
no_request before after mid spans old new (Bad LongHead) r = record { got = r.got; gave = r.gave; answer = bad_head before mid r.got LongHead r.after_is r.answer }
no_request before after mid spans old new (Bad LongBody) r = record { got = r.got; gave = r.gave; answer = bad_head before mid r.got LongBody r.after_is r.answer }
no_request before after mid spans old new (Bad BadLength) r = record { got = r.got; gave = r.gave; answer = bad_head before mid r.got BadLength r.after_is r.answer }
no_request before after mid spans old new (Bad Coding) r = record { got = r.got; gave = r.gave; answer = bad_head before mid r.got Coding r.after_is r.answer }
no_request before after mid spans old new ReadFault r = record {
  got = r.got;
  gave = r.gave;
  answer = (
    subst (λ (t : List ℕ). (t ≡ []) ⊎ IsPending t) r.after_is (empty_or_pending mid r.answer.0),
    subst (NoneDue before.answered) r.after_is (none_held before.answered mid r.answer.1),
    r.answer.2,
  );
}
  where
    empty_or_pending : (bytes : List ℕ) → (bytes ≡ []) ⊎ First bytes Beginning → (bytes ≡ []) ⊎ IsPending bytes
    empty_or_pending bytes (inl e) = inl e
    empty_or_pending bytes (inr f) = inr (inl f)
no_request before after mid spans old new Memory r = record { got = r.got; gave = r.gave; answer = tt }

-- want of memory behind the head
pub head_wants : (before after : BufferTold) (mid : List ℕ) (spans : List HeaderSpan) (old new : SourceTold) (f : Framed)
    → ReadsHead before.bytes mid spans old new (Ok (Some f)) → ReadsRequest before after old new (Err Memory)
head_wants before after mid spans old new f r = record { got = r.got; gave = r.gave; answer = tt }

pub body_wants : (before after : BufferTold) (mid rest : List ℕ) (body : List ℕ) (spans : List HeaderSpan) (old middle new : SourceTold) (f : Framed)
    → ReadsHead before.bytes mid spans old middle (Ok (Some f)) → ReadsBody f.framing (drop f.head.len mid) rest body middle new (Ok tt) → ReadsRequest before after old new (Err Memory)
body_wants before after mid rest body spans old middle new f r b =
    record { got = r.got ++ b.got; gave = Gave-then old middle new r.got b.got r.gave b.gave; answer = tt }

-- the request that was put together, or want of memory
pub put_together : (before after : BufferTold) (old new : SourceTold) (request : Request) (r : Result Incoming WireStop)
    → MatchResult r (λ i. i ≡ incoming.Body request) (λ s. s ≡ Memory)
    → ReadsRequest before after old new (Ok (incoming.Body request)) → ReadsRequest before after old new (Err Memory) → ReadsRequest before after old new r
put_together before after old new request (Ok i) e x y = subst (λ (j : Incoming). ReadsRequest before after old new (Ok j)) (sym e) x
put_together before after old new request (Err s) e x y = subst (λ (t : WireStop). ReadsRequest before after old new (Err t)) (sym e) y
