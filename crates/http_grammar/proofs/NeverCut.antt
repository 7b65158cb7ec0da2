-- No rule on the bytes gives the fault of a cut: whether the input ends is for the reader to say.
use Rattle.std.proofs.Common.{ℕ, List, [], ◌∷◌, length, take, drop, Bool, true, false, sym, subst, Result, Ok, Err, Option, Some, None}
use Rattle.std.specs.Prelude.{if◌then◌else◌, nat_le, nat_lt, ◌==◌, ⊤, codes}
use Rattle.httparse.specs.Grammar.{print_request}
use Rattle.http_grammar.specs.Limits.{body_limit, chunked_limit}
use Rattle.http_grammar.specs.Request.{Head, head_of}
use Rattle.http_grammar.specs.Fields.{head_framing, framing, by_length, by_coding, sized, length_of_value, same_word, has_good_host, values_named, expects_continue}
use Rattle.http_grammar.specs.Chunks.{BodyFront, unfinished, ends, broken, part_of_chunk, may_begin_line_end, TrailerFront, coming, never, trailers, with_trailers, part, last_chunk, Tail, line_open, line_bad, line_whole, limited, Body}
use Rattle.http_grammar.specs.First.{Front, Nothing, Beginning, Waits, Whole, Fault, First, empty, partial, hopeless, too_long, whole_head, Follows, front_of}
use Rattle.http_grammar.specs.declared.fault.HttpFault.{HttpFault}
use Rattle.http_grammar.specs.declared.fault.HttpFault.TheVariants.{BadHead, LongHead, LongBody, BadLength, Coding, Cut}
use Rattle.http_grammar.specs.declared.framing.Framing.{Framing}
use Rattle.http_grammar.specs.declared.framing.Framing.TheVariants.{Sized, Chunked}

-- a fault of the bytes alone
abbrev pub IsOfBytes : HttpFault → Type 0
IsOfBytes Cut = ⊥
IsOfBytes BadHead = ⊤
IsOfBytes LongHead = ⊤
IsOfBytes LongBody = ⊤
IsOfBytes BadLength = ⊤
IsOfBytes Coding = ⊤

abbrev FramingIsOfBytes : Result Framing HttpFault → Type 0
FramingIsOfBytes (Ok f) = ⊤
FramingIsOfBytes (Err f) = IsOfBytes f

abbrev pub BodyIsOfBytes : BodyFront → Type 0
BodyIsOfBytes unfinished = ⊤
BodyIsOfBytes (ends body n) = ⊤
BodyIsOfBytes (broken f) = IsOfBytes f

abbrev FrontIsOfBytes : Front → Type 0
FrontIsOfBytes Nothing = ⊤
FrontIsOfBytes Beginning = ⊤
FrontIsOfBytes (Waits h) = ⊤
FrontIsOfBytes (Whole r n) = ⊤
FrontIsOfBytes (Fault f) = IsOfBytes f

either : (t : Bool) (a b : Result Framing HttpFault) → FramingIsOfBytes a → FramingIsOfBytes b → FramingIsOfBytes (if t then a else b)
either true a b x y = x
either false a b x y = y

sized_of_bytes : (n : Option ℕ) → FramingIsOfBytes (sized n)
unfolding sized
sized_of_bytes None = tt
sized_of_bytes (Some n) = either (nat_lt body_limit n) (Err LongBody) (Ok (Sized n)) tt tt

by_length_of_bytes : (values : List (List ℕ)) → FramingIsOfBytes (by_length values)
by_length_of_bytes [] = tt
by_length_of_bytes (v ∷ []) = sized_of_bytes (length_of_value v)
by_length_of_bytes (v ∷ w ∷ values) = tt

by_coding_of_bytes : (values : List (List ℕ)) → FramingIsOfBytes (by_coding values)
by_coding_of_bytes [] = tt
by_coding_of_bytes (v ∷ []) = either (same_word v (codes "chunked")) (Ok Chunked) (Err Coding) tt tt
by_coding_of_bytes (v ∷ w ∷ values) = tt

framing_of_bytes : (minor : ℕ) (codings lengths : List (List ℕ)) → FramingIsOfBytes (framing minor codings lengths)
framing_of_bytes minor [] lengths = by_length_of_bytes lengths
framing_of_bytes minor (c ∷ codings) [] = either (minor == 0) (Err BadLength) (by_coding (c ∷ codings)) tt (by_coding_of_bytes (c ∷ codings))
framing_of_bytes minor (c ∷ codings) (n ∷ lengths) = tt

head_of_bytes : (h : Head) → FramingIsOfBytes (head_framing h)
unfolding head_framing
head_of_bytes h =
    either (has_good_host h.minor (values_named (codes "host") h.fields)) (framing h.minor (values_named (codes "transfer-encoding") h.fields) (values_named (codes "content-length") h.fields)) (Err BadHead)
    (framing_of_bytes h.minor (values_named (codes "transfer-encoding") h.fields) (values_named (codes "content-length") h.fields)) tt

either_body : (t : Bool) (a b : BodyFront) → BodyIsOfBytes a → BodyIsOfBytes b → BodyIsOfBytes (if t then a else b)
either_body true a b x y = x
either_body false a b x y = y

part_of_bytes : (t : Bool) (behind : List ℕ) → BodyIsOfBytes (part_of_chunk t behind)
part_of_bytes false behind = tt
part_of_bytes true behind = either_body (may_begin_line_end behind) unfinished (broken BadLength) tt tt

trailers_of_bytes : (body : List ℕ) (form : ℕ) (s : TrailerFront) → BodyIsOfBytes (with_trailers body form s)
trailers_of_bytes body form coming = tt
trailers_of_bytes body form never = tt
trailers_of_bytes body form (trailers n) = tt

tail_of_bytes : (body : List ℕ) (form : ℕ) (tail : List ℕ) (x : BodyFront) → Tail body form tail x → BodyIsOfBytes x
tail_of_bytes body form tail x (line_open a b e) = subst BodyIsOfBytes (sym e) tt
tail_of_bytes body form tail x (line_bad a e) = subst BodyIsOfBytes (sym e) tt
tail_of_bytes body form tail x (line_whole line rest z (part a b e)) = subst BodyIsOfBytes (sym e) (part_of_bytes _ (drop _ rest))
tail_of_bytes body form tail x (line_whole line rest z (last_chunk a s t e)) = subst BodyIsOfBytes (sym e) (trailers_of_bytes body _ s)

limited_of_bytes : (n : ℕ) (x : BodyFront) → BodyIsOfBytes x → BodyIsOfBytes (limited n x)
limited_of_bytes n unfinished w = either_body (nat_le chunked_limit n) (broken LongBody) unfinished tt tt
limited_of_bytes n (ends body form) w = tt
limited_of_bytes n (broken f) w = w

pub body_of_bytes : (framing : Framing) (rest : List ℕ) (x : BodyFront) → Body framing rest x → BodyIsOfBytes x
body_of_bytes (Sized n) rest x e = subst BodyIsOfBytes (sym e) (either_body (nat_le n (length rest)) (ends (take n rest) n) unfinished tt tt)
body_of_bytes Chunked rest x (b, k, e) = subst BodyIsOfBytes (sym e) (limited_of_bytes (length rest) b (tail_of_bytes _ _ k.tail b k.behind))

front_of_bytes : (h : Head) (n : ℕ) (b : BodyFront) → BodyIsOfBytes b → FrontIsOfBytes (front_of h n b)
front_of_bytes h n unfinished w = by_wait (expects_continue h)
  where
    by_wait : (t : Bool) → FrontIsOfBytes (if t then Waits h else Beginning)
    by_wait true = tt
    by_wait false = tt
front_of_bytes h n (ends body form) w = tt
front_of_bytes h n (broken f) w = w

follows_of_bytes : (framing : Result Framing HttpFault) (h : Head) (n : ℕ) (rest : List ℕ) (x : Front) → FramingIsOfBytes framing
    → Follows framing h n rest x → FrontIsOfBytes x
follows_of_bytes (Err f) h n rest x w e = subst FrontIsOfBytes (sym e) w
follows_of_bytes (Ok framing) h n rest x w (b, k, e) = subst FrontIsOfBytes (sym e) (front_of_bytes h n b (body_of_bytes framing rest b k))

first_of_bytes : (bytes : List ℕ) (x : Front) → First bytes x → FrontIsOfBytes x
first_of_bytes bytes x (empty e f) = subst FrontIsOfBytes (sym f) tt
first_of_bytes bytes x (partial a b o f) = subst FrontIsOfBytes (sym f) tt
first_of_bytes bytes x (hopeless o f) = subst FrontIsOfBytes (sym f) tt
first_of_bytes bytes x (too_long a o f) = subst FrontIsOfBytes (sym f) tt
first_of_bytes bytes x (whole_head h rest z f) = follows_of_bytes _ (head_of h) (length (print_request h)) rest x (head_of_bytes (head_of h)) f

-- the bytes alone are never cut
pub first_never_cut : (bytes : List ℕ) → First bytes (Fault Cut) → ⊥
first_never_cut bytes f = first_of_bytes bytes (Fault Cut) f
