-- What stands at the front is one thing, stays when it is decided, and lies within the bytes.
use Rattle.std.proofs.Common.{◌≡◌, ◌++◌, ◌∙◌, ◌≤◌, ◌<◌, ◌+◌, ◌-◌, ℕ, List, [], ◌∷◌, length, take, Bool, true, false, refl, sym, ap, subst, append_assoc, append-nil, length-append, arith, Result, Ok, Err}
use Rattle.std.specs.Prelude.{if◌then◌else◌, ⊤, is_ok}
use Rattle.std.proofs.lemmas.List.{take-append-le, take_all}
use Rattle.std.proofs.Math.Seq.{take-append-add}
use Rattle.httparse.specs.Grammar.{RequestHead, print_request, ReadsRequest}
use Rattle.httparse.proofs.GrammarLemmas.{request_unique, ReadsRequest-append}
use Rattle.http_grammar.specs.Limits.{head_limit}
use Rattle.http_grammar.specs.Judged.{is_judged}
use Rattle.http_grammar.specs.Request.{Head, Request, head_of}
use Rattle.http_grammar.specs.Fields.{head_framing, expects_continue}
use Rattle.http_grammar.specs.Chunks.{BodyFront, unfinished, ends, broken, Body}
use Rattle.http_grammar.specs.First.{Front, Nothing, Beginning, Waits, Whole, Fault, HasHead, HasNoFuture, IsOpen, front_of, Follows, First, empty, partial, hopeless, too_long, whole_head, IsDecided, HoldsHead}
use Rattle.http_grammar.specs.declared.fault.HttpFault.{HttpFault}
use Rattle.http_grammar.specs.declared.framing.Framing.{Framing}
use Rattle.http_grammar.specs.declared.framing.Framing.TheVariants.{Sized, Chunked}
use Rattle.http_grammar.proofs.Lists.{take_longer}
use Rattle.http_grammar.proofs.Judged.{head_is_judged, is_judged-append}
use Rattle.http_grammar.proofs.OneBody.{chunked_unique}
use Rattle.http_grammar.proofs.KeptBody.{IsDecidedBody, body_kept, LengthAtMost, body_within}

-- ---- one front

-- a head that isn't too long stands in the first bytes
pub in_part : (bytes : List ℕ) (h : RequestHead) (rest : List ℕ) → HasHead bytes h rest
    → ReadsRequest (take head_limit bytes) h (take (head_limit - length (print_request h)) rest)
in_part bytes h rest x =
    let n : length (print_request h) + (head_limit - length (print_request h)) ≡ head_limit = omega (arith, x.short) in
    (x.reads.0, ap (take head_limit) x.reads.1 ∙ sym (ap (λ (k : ℕ). take k (print_request h ++ rest)) n) ∙ take-append-add (print_request h) rest (head_limit - length (print_request h)))

pub not_hopeless : (bytes : List ℕ) (h : RequestHead) (rest : List ℕ) → HasHead bytes h rest → HasNoFuture (take head_limit bytes) → ⊥
not_hopeless bytes h rest x f =
    f.never [] h _ (subst (λ b. ReadsRequest b h (take (head_limit - length (print_request h)) rest)) (sym (append-nil (take head_limit bytes))) (in_part bytes h rest x))

not_empty : (bytes : List ℕ) (h : RequestHead) (rest : List ℕ) → HasHead bytes h rest → bytes ≡ [] → ⊥
not_empty bytes h rest x e =
    let j : is_judged bytes ≡ true = head_is_judged bytes h rest x.reads in
    let k : is_judged bytes ≡ false = ap is_judged e in absurd (cc)

body_unique : (framing : Framing) (rest : List ℕ) (a b : BodyFront) → Body framing rest a → Body framing rest b → a ≡ b
body_unique (Sized n) rest a b e f = e ∙ sym f
body_unique Chunked rest a b x y = chunked_unique rest a b x y

follows_unique : (framing : Result Framing HttpFault) (h : Head) (n : ℕ) (rest : List ℕ) (x y : Front)
    → Follows framing h n rest x → Follows framing h n rest y → x ≡ y
follows_unique (Err fault) h n rest x y e f = e ∙ sym f
follows_unique (Ok framing) h n rest x y (a, k, e) (b, l, f) = e ∙ ap (front_of h n) (body_unique framing rest a b k l) ∙ sym f

-- what a whole head leads to
abbrev FollowsHead : RequestHead → List ℕ → Front → Type 0
FollowsHead h rest x = Follows (head_framing (head_of h)) (head_of h) (length (print_request h)) rest x

-- a whole head leaves no other rule
only_head : (bytes : List ℕ) (h : RequestHead) (rest : List ℕ) (y : Front) → HasHead bytes h rest → First bytes y → FollowsHead h rest y
only_head bytes h rest y x (empty e f) = absurd (not_empty bytes h rest x e)
only_head bytes h rest y x (partial a b o f) = absurd (o.none h rest x.reads)
only_head bytes h rest y x (hopeless o f) = absurd (not_hopeless bytes h rest x o)
only_head bytes h rest y x (too_long a o f) = absurd (o.none h _ (in_part bytes h rest x))
only_head bytes h rest y x (whole_head k r z w) =
    let same = request_unique bytes k h r rest z.reads x.reads in
    subst (λ (a : List ℕ). FollowsHead h a y) same.1 (subst (λ (a : RequestHead). FollowsHead a r y) same.0 w)

hopeless_some : (bytes : List ℕ) → HasNoFuture (take head_limit bytes) → bytes ≡ [] → ⊥
hopeless_some bytes o e =
    let j : is_judged (take head_limit bytes) ≡ true = o.judged in
    let none : take head_limit bytes ≡ [] = ap (take head_limit) e ∙ take_all head_limit [] (omega arith) in
    let k : is_judged (take head_limit bytes) ≡ false = ap is_judged none in absurd (cc)

no_length : (bytes : List ℕ) → bytes ≡ [] → 0 < length bytes → ⊥
no_length bytes e more = let n : length bytes ≡ 0 = ap length e in absurd (omega arith)

some_limit : 0 < head_limit
unfolding head_limit
some_limit = omega arith

open_hopeless : (bytes : List ℕ) → length bytes < head_limit → IsOpen bytes → HasNoFuture (take head_limit bytes) → ⊥
open_hopeless bytes few o f = o.hope (subst HasNoFuture (take_all head_limit bytes (omega arith)) f)

pub first_unique : (bytes : List ℕ) (x y : Front) → First bytes x → First bytes y → x ≡ y
first_unique bytes x y (whole_head h r z f) q = follows_unique _ (head_of h) (length (print_request h)) r x y f (only_head bytes h r y z q)
first_unique bytes x y p (whole_head h r z f) = follows_unique _ (head_of h) (length (print_request h)) r x y (only_head bytes h r x z p) f
first_unique bytes x y (empty e f) (empty e' g) = f ∙ sym g
first_unique bytes x y (empty e f) (partial a b o g) = absurd (no_length bytes e a)
first_unique bytes x y (empty e f) (hopeless o g) = absurd (hopeless_some bytes o e)
first_unique bytes x y (empty e f) (too_long a o g) = absurd (no_length bytes e (omega (arith, some_limit)))
first_unique bytes x y (partial a b o f) (empty e g) = absurd (no_length bytes e a)
first_unique bytes x y (partial a b o f) (partial a' b' o' g) = f ∙ sym g
first_unique bytes x y (partial a b o f) (hopeless o' g) = absurd (open_hopeless bytes b o o')
first_unique bytes x y (partial a b o f) (too_long a' o' g) = absurd (omega arith)
first_unique bytes x y (hopeless o f) (empty e g) = absurd (hopeless_some bytes o e)
first_unique bytes x y (hopeless o f) (partial a b o' g) = absurd (open_hopeless bytes b o' o)
first_unique bytes x y (hopeless o f) (hopeless o' g) = f ∙ sym g
first_unique bytes x y (hopeless o f) (too_long a o' g) = absurd (o'.hope o)
first_unique bytes x y (too_long a o f) (empty e g) = absurd (no_length bytes e (omega (arith, some_limit)))
first_unique bytes x y (too_long a o f) (partial a' b o' g) = absurd (omega arith)
first_unique bytes x y (too_long a o f) (hopeless o' g) = absurd (o.hope o')
first_unique bytes x y (too_long a o f) (too_long a' o' g) = f ∙ sym g

-- ---- more bytes

HasNoFuture-append : (a b : List ℕ) → HasNoFuture a → HasNoFuture (a ++ b)
HasNoFuture-append a b f = record {
  judged = is_judged-append a b f.judged;
  never = λ more h rest x. f.never (b ++ more) h rest (subst (λ t. ReadsRequest t h rest) (append_assoc a b more) x);
}

waits_or_begins : (t : Bool) (h : Head) → IsDecided (if t then Waits h else Beginning) → ⊥
waits_or_begins true h d = d
waits_or_begins false h d = d

decided_body : (h : Head) (n : ℕ) (b : BodyFront) → IsDecided (front_of h n b) → IsDecidedBody b
decided_body h n unfinished d = waits_or_begins (expects_continue h) h d
decided_body h n (ends body form) d = tt
decided_body h n (broken fault) d = tt

follows_kept : (framing : Result Framing HttpFault) (h : Head) (n : ℕ) (rest more : List ℕ) (x : Front)
    → Follows framing h n rest x → IsDecided x → Follows framing h n (rest ++ more) x
follows_kept (Err fault) h n rest more x e d = e
follows_kept (Ok framing) h n rest more x (b, k, e) d =
    (b, body_kept framing rest more b k (decided_body h n b (subst IsDecided e d)), e)

pub HasHead-append : (bytes more : List ℕ) (h : RequestHead) (rest : List ℕ) → HasHead bytes h rest → HasHead (bytes ++ more) h (rest ++ more)
HasHead-append bytes more h rest z = record { reads = ReadsRequest-append bytes h rest more z.reads; short = z.short }

pub first_kept : (bytes more : List ℕ) (x : Front) → First bytes x → IsDecided x → First (bytes ++ more) x
first_kept bytes more x (empty e f) d = absurd (subst IsDecided f d)
first_kept bytes more x (partial a b o f) d = absurd (subst IsDecided f d)
first_kept bytes more x (hopeless o f) d =
    let (c, e) = take_longer head_limit bytes more in
    hopeless (subst HasNoFuture (sym e) (HasNoFuture-append (take head_limit bytes) c o)) f
first_kept bytes more x (too_long a o f) d =
    too_long (omega (arith, length-append bytes more)) (subst IsOpen (sym (take-append-le head_limit bytes more a)) o) f
first_kept bytes more x (whole_head h rest z f) d =
    whole_head h (rest ++ more) (HasHead-append bytes more h rest z) (follows_kept _ (head_of h) (length (print_request h)) rest more x f d)

-- ---- within the bytes

abbrev LengthWithin : ℕ → Front → Type 0
LengthWithin limit Nothing = ⊤
LengthWithin limit Beginning = ⊤
LengthWithin limit (Waits h) = ⊤
LengthWithin limit (Whole request n) = (0 < n) × (n ≤ limit)
LengthWithin limit (Fault fault) = ⊤

front_within : (h : Head) (n limit : ℕ) (b : BodyFront) → 0 < n → LengthAtMost limit b → LengthWithin (n + limit) (front_of h n b)
front_within h n limit unfinished some w = by_wait (expects_continue h)
  where
    by_wait : (t : Bool) → LengthWithin (n + limit) (if t then Waits h else Beginning)
    by_wait true = tt
    by_wait false = tt
front_within h n limit (ends body form) some w = (omega arith, omega arith)
front_within h n limit (broken fault) some w = tt

follows_within : (framing : Result Framing HttpFault) (h : Head) (n : ℕ) (rest : List ℕ) (x : Front) → 0 < n
    → Follows framing h n rest x → LengthWithin (n + length rest) x
follows_within (Err fault) h n rest x some e = subst (LengthWithin (n + length rest)) (sym e) tt
follows_within (Ok framing) h n rest x some (b, k, e) =
    subst (LengthWithin (n + length rest)) (sym e) (front_within h n (length rest) b some (body_within framing rest b k))

some_head : (bytes : List ℕ) (h : RequestHead) (rest : List ℕ) → HasHead bytes h rest → 0 < length (print_request h)
some_head bytes h rest x = by_length (print_request h) (head_is_judged (print_request h) h [] (x.reads.0, sym (append-nil (print_request h))))
  where
    by_length : (text : List ℕ) → is_judged text ≡ true → 0 < length text
    by_length [] j = absurd (cc)
    by_length (b ∷ text) j = omega arith

first_within : (bytes : List ℕ) (x : Front) → First bytes x → LengthWithin (length bytes) x
first_within bytes x (empty e f) = subst (LengthWithin (length bytes)) (sym f) tt
first_within bytes x (partial a b o f) = subst (LengthWithin (length bytes)) (sym f) tt
first_within bytes x (hopeless o f) = subst (LengthWithin (length bytes)) (sym f) tt
first_within bytes x (too_long a o f) = subst (LengthWithin (length bytes)) (sym f) tt
first_within bytes x (whole_head h rest z f) =
    let n : length bytes ≡ length (print_request h) + length rest = ap length z.reads.1 ∙ length-append (print_request h) rest in
    subst (λ k. LengthWithin k x) (sym n) (follows_within _ (head_of h) (length (print_request h)) rest x (some_head bytes h rest z) f)

pub request_within : (bytes : List ℕ) (r : Request) (n : ℕ) → First bytes (Whole r n) → (0 < n) × (n ≤ length bytes)
request_within bytes r n f = first_within bytes (Whole r n) f

-- ---- heads that are held

pub held_unique : (bytes : List ℕ) (h k : Head) → HoldsHead bytes h → HoldsHead bytes k → h ≡ k
held_unique bytes h k x y =
    x.head_is ∙ ap head_of (request_unique bytes x.text y.text x.rest y.rest x.has.reads y.has.reads).0 ∙ sym y.head_is

pub held_kept : (bytes more : List ℕ) (h : Head) → HoldsHead bytes h → HoldsHead (bytes ++ more) h
held_kept bytes more h x = record {
  text = x.text;
  rest = x.rest ++ more;
  has = HasHead-append bytes more x.text x.rest x.has;
  head_is = x.head_is;
  good = x.good;
}

-- what a front says of the head
abbrev SaysOfHead : List ℕ → Front → Type 0
SaysOfHead bytes Nothing = ⊤
SaysOfHead bytes Beginning = ⊤
SaysOfHead bytes (Waits h) = HoldsHead bytes h × (expects_continue h ≡ true)
SaysOfHead bytes (Whole request n) = HoldsHead bytes request.head
SaysOfHead bytes (Fault fault) = ⊤

front_says : (bytes : List ℕ) (h : Head) (n : ℕ) (b : BodyFront) → HoldsHead bytes h → SaysOfHead bytes (front_of h n b)
front_says bytes h n unfinished x = by_wait (expects_continue h) refl
  where
    by_wait : (t : Bool) → expects_continue h ≡ t → SaysOfHead bytes (if t then Waits h else Beginning)
    by_wait true e = (x, e)
    by_wait false e = tt
front_says bytes h n (ends body form) x = x
front_says bytes h n (broken fault) x = tt

follows_says : (bytes : List ℕ) (text : RequestHead) (rest : List ℕ) (framing : Result Framing HttpFault) (x : Front) → HasHead bytes text rest
    → head_framing (head_of text) ≡ framing → Follows framing (head_of text) (length (print_request text)) rest x → SaysOfHead bytes x
follows_says bytes text rest (Err fault) x z f e = subst (SaysOfHead bytes) (sym e) tt
follows_says bytes text rest (Ok framing) x z f (b, k, e) =
    subst (SaysOfHead bytes) (sym e)
    (front_says bytes (head_of text) (length (print_request text)) b
    (record { text = text; rest = rest; has = z; head_is = refl; good = ap ok f }))
  where
    ok : Result Framing HttpFault → Bool
    ok r = is_ok r

first_says : (bytes : List ℕ) (x : Front) → First bytes x → SaysOfHead bytes x
first_says bytes x (empty e f) = subst (SaysOfHead bytes) (sym f) tt
first_says bytes x (partial a b o f) = subst (SaysOfHead bytes) (sym f) tt
first_says bytes x (hopeless o f) = subst (SaysOfHead bytes) (sym f) tt
first_says bytes x (too_long a o f) = subst (SaysOfHead bytes) (sym f) tt
first_says bytes x (whole_head h rest z f) = follows_says bytes h rest (head_framing (head_of h)) x z refl f

pub whole_holds : (bytes : List ℕ) (r : Request) (n : ℕ) → First bytes (Whole r n) → HoldsHead bytes r.head
whole_holds bytes r n f = first_says bytes (Whole r n) f

pub waits_holds : (bytes : List ℕ) (h : Head) → First bytes (Waits h) → HoldsHead bytes h × (expects_continue h ≡ true)
waits_holds bytes h f = first_says bytes (Waits h) f

-- no bytes hold no head
pub none_held : (h : Head) → HoldsHead [] h → ⊥
none_held h x = not_empty [] x.text x.rest x.has refl

-- ---- a fault at the front, and more bytes

-- a head of more bytes, where no prefix of the first ones is one
not_future : (bytes more : List ℕ) (h : RequestHead) (rest : List ℕ) → HasHead (bytes ++ more) h rest → HasNoFuture (take head_limit bytes) → ⊥
not_future bytes more h rest x f =
    let (c, e) = take_longer head_limit bytes more in
    not_hopeless (bytes ++ more) h rest x (subst HasNoFuture (sym e) (HasNoFuture-append (take head_limit bytes) c f))

not_within : (bytes more : List ℕ) (h : RequestHead) (rest : List ℕ) → HasHead (bytes ++ more) h rest → head_limit ≤ length bytes → IsOpen (take head_limit bytes) → ⊥
not_within bytes more h rest x long o =
    o.none h (take (head_limit - length (print_request h)) rest)
    (subst (λ t. ReadsRequest t h (take (head_limit - length (print_request h)) rest)) (take-append-le head_limit bytes more long) (in_part (bytes ++ more) h rest x))

nothing_fault : (f : HttpFault) → Fault f ≡ Nothing → ⊥
nothing_fault f e = cc

beginning_fault : (f : HttpFault) → Fault f ≡ Beginning → ⊥
beginning_fault f e = cc

-- the one head that more bytes hold is held already
pub fault_holds : (bytes more : List ℕ) (fault : HttpFault) (h : Head) → First bytes (Fault fault) → HoldsHead (bytes ++ more) h → HoldsHead bytes h
fault_holds bytes more fault h (empty e f) x = absurd (nothing_fault fault f)
fault_holds bytes more fault h (partial a b o f) x = absurd (beginning_fault fault f)
fault_holds bytes more fault h (hopeless o f) x = absurd (not_future bytes more x.text x.rest x.has o)
fault_holds bytes more fault h (too_long a o f) x = absurd (not_within bytes more x.text x.rest x.has a o)
fault_holds bytes more fault h (whole_head k rest z w) x =
    let same = request_unique (bytes ++ more) x.text k x.rest (rest ++ more) x.has.reads (HasHead-append bytes more k rest z).reads in
    record { text = k; rest = rest; has = z; head_is = x.head_is ∙ ap head_of same.0; good = x.good }
