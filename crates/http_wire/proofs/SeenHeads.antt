-- From what the parser of heads says of the first bytes to what stands at the front of all.
use Rattle.std.proofs.Common.{◌≡◌, ◌++◌, ◌∙◌, ◌≤◌, ◌<◌, ◌+◌, ◌-◌, ℕ, List, [], ◌∷◌, length, take, drop, map, min, Bool, refl, sym, ap, subst, arith, inl, inr, ◌⊎◌, Result, Err, All}
use Rattle.std.specs.Prelude.{is_ok}
use Rattle.std.proofs.lemmas.Bool.{false≢true, cases_lt}
use Rattle.std.proofs.lemmas.List.{take-append-le, take_all, length-take, drop-take}
use Rattle.std.proofs.lemmas.List.Elements.{All-head, All-tail}
use Rattle.std.proofs.Math.Seq.{take-add, drop-append_seam}
use Rattle.httparse.specs.Grammar.{RequestHead, print_request, ReadsRequest}
use Rattle.httparse.specs.Spans.{IsWithin, IsHeaderWithin, IsRequestAt, IsRequestWithin, span_bytes, header_bytes}
use Rattle.httparse.specs.declared.spans.Span.{Span}
use Rattle.httparse.specs.declared.spans.HeaderSpan.{HeaderSpan}
use Rattle.httparse.specs.declared.spans.RequestSpans.{RequestSpans}
use Rattle.httparse.proofs.GrammarLemmas.{request_unique}
use Rattle.http_grammar.specs.Limits.{head_limit}
use Rattle.http_grammar.specs.Request.{head_of}
use Rattle.http_grammar.specs.Fields.{head_framing}
use Rattle.http_grammar.specs.First.{First, Beginning, Fault, HasHead, IsOpen, HasNoFuture, Follows, partial, hopeless, too_long, whole_head}
use Rattle.http_grammar.specs.declared.fault.HttpFault.{HttpFault}
use Rattle.http_grammar.specs.declared.fault.HttpFault.TheVariants.{BadHead, LongHead}
use Rattle.http_grammar.specs.declared.framing.Framing.{Framing}
use Rattle.http_grammar.proofs.Heads.{HasHead_part}
use Rattle.http_grammar.proofs.OneFront.{in_part, not_hopeless}
use Rattle.http_wire.specs.Found.{fields_at}
use Rattle.http_wire.specs.Seen.{WholeHeadAt, HoldsNone}

pub head_limit_is : head_limit ≡ 65536
unfolding head_limit
head_limit_is = refl

-- ---- spans in a front of the text

-- a front of a front
pub take_take : (n m : ℕ) (xs : List ℕ) → n ≤ m → take n (take m xs) ≡ take n xs
take_take n m xs le = by_length (cases_lt (length xs) n)
  where
    by_length : (length xs < n) ⊎ (n ≤ length xs) → take n (take m xs) ≡ take n xs
    by_length (inl few) = ap (take n) (take_all m xs (omega arith))
    by_length (inr enough) =
        let e : n + (m - n) ≡ m = omega arith in
        let own : length (take n xs) ≡ n = length-take n xs ∙ omega arith in
        sym (ap (λ (k : ℕ). take n (take k xs)) e) ∙ ap (take n) (take-add n (m - n) xs)
        ∙ take-append-le n (take n xs) (take (m - n) (drop n xs)) (omega arith) ∙ take_all n (take n xs) (omega arith)

front_end : (xs : List ℕ) (s e : ℕ) → s ≤ e → take (e - s) (drop s xs) ≡ drop s (take e xs)
front_end xs s e le =
    let n : s + (e - s) ≡ e = omega arith in
    sym (drop-take s (e - s) xs) ∙ ap (λ (k : ℕ). drop s (take k xs)) n

-- a span within a front has the same bytes there
pub span_front : (n : ℕ) (xs : List ℕ) (s : Span) → IsWithin n s → span_bytes (take n xs) s ≡ span_bytes xs s
span_front n xs s w = front_end (take n xs) s.start s.end w.0 ∙ ap (drop s.start) (take_take s.end n xs w.1) ∙ sym (front_end xs s.start s.end w.0)

pub fields_front : (n : ℕ) (xs : List ℕ) (spans : List HeaderSpan) → All (IsHeaderWithin n) spans → map (header_bytes (take n xs)) spans ≡ map (header_bytes xs) spans
fields_front n xs [] all = refl
fields_front n xs (s ∷ spans) all =
    let first = All-head (IsHeaderWithin n) s spans all in
    let ih = fields_front n xs spans (All-tail (IsHeaderWithin n) s spans all) in
    λ i. (span_front n xs s.name first.0 i, span_front n xs s.value first.1 i) ∷ ih i

-- ---- a whole head

seam : (bytes front rest : List ℕ) (len : ℕ) → bytes ≡ front ++ rest → len ≡ length front → drop len bytes ≡ rest
seam bytes front rest len e f = ap (drop len) e ∙ ap (λ (n : ℕ). drop n (front ++ rest)) f ∙ drop-append_seam front rest

-- a head of the part is one of the bytes, and the bytes behind its length are the rest
head_of_part : (bytes part : List ℕ) (spans : List HeaderSpan) (r : RequestSpans) (h : RequestHead)
    → part ≡ take head_limit bytes → IsRequestAt part spans r h → HasHead bytes h (drop r.len bytes)
head_of_part bytes part spans r h e at =
    let x : ReadsRequest (take head_limit bytes) h (drop r.len part) = subst (λ p. ReadsRequest p h (drop r.len part)) e at.reads in
    let y : HasHead bytes h (drop r.len part ++ drop head_limit bytes) = HasHead_part bytes h (drop r.len part) x in
    subst (HasHead bytes h) (sym (seam bytes (print_request h) (drop r.len part ++ drop head_limit bytes) r.len y.reads.1 at.len)) y

pub whole_part : (bytes part : List ℕ) (spans : List HeaderSpan) (r : RequestSpans) → part ≡ take head_limit bytes
    → IsRequestWithin part spans r → (h : RequestHead) × IsRequestAt part spans r h → WholeHeadAt bytes spans r
whole_part bytes part spans r e within (h, at) =
    let fits : r.len ≤ length part = within.section.len_fits in
    let n : length part ≡ min head_limit (length bytes) = ap length e ∙ length-take head_limit bytes in
    let same : take r.len bytes ≡ take r.len part = sym (ap (take r.len) e ∙ take_take r.len head_limit bytes (omega arith)) in
    let own : length (take r.len bytes) ≡ r.len = length-take r.len bytes ∙ omega arith in
    let method : IsWithin r.len r.method = within.method in
    let target : IsWithin r.len r.path = within.path in
    let fields : All (IsHeaderWithin r.len) (take r.headers spans) = within.section.headers_fit in
    record {
      text = h;
      has = head_of_part bytes part spans r h e at;
      len = at.len;
      inside = omega arith;
      at = record {
        method_within = subst (λ (k : ℕ). IsWithin k r.method) (sym own) method;
        target_within = subst (λ (k : ℕ). IsWithin k r.path) (sym own) target;
        count = within.section.count_fits;
        fields_within = subst (λ (k : ℕ). All (IsHeaderWithin k) (take r.headers spans)) (sym own) fields;
        method = ap (λ (t : List ℕ). span_bytes t r.method) same ∙ span_front r.len part r.method method ∙ at.method;
        target = ap (λ (t : List ℕ). span_bytes t r.path) same ∙ span_front r.len part r.path target ∙ at.path;
        minor = at.version;
        fields = ap (λ (t : List ℕ). fields_at t (take r.headers spans)) same ∙ fields_front r.len part (take r.headers spans) fields ∙ at.fields;
      };
    }

-- ---- no head

pub none_where_hopeless : (bytes : List ℕ) → HasNoFuture (take head_limit bytes) → First bytes (Fault BadHead) × HoldsNone bytes
none_where_hopeless bytes f = (hopeless f refl, λ head x. not_hopeless bytes x.text x.rest x.has f)

pub none_where_open : (bytes : List ℕ) → length bytes < head_limit → IsOpen bytes → (length bytes < head_limit) × (0 < length bytes → First bytes Beginning) × HoldsNone bytes
none_where_open bytes few o = (few, λ some. partial some few o refl, λ head x. o.none x.text x.rest x.has.reads)

pub none_where_long : (bytes : List ℕ) → head_limit ≤ length bytes → IsOpen (take head_limit bytes) → First bytes (Fault LongHead) × HoldsNone bytes
none_where_long bytes long o = (too_long long o refl, λ head x. o.none x.text _ (in_part bytes x.text x.rest x.has))

-- ---- a head with a fault of its own

pub faulty_head : (bytes : List ℕ) (spans : List HeaderSpan) (r : RequestSpans) (fault : HttpFault) (w : WholeHeadAt bytes spans r)
    → Err fault ≡ head_framing (head_of w.text) → First bytes (Fault fault) × HoldsNone bytes
faulty_head bytes spans r fault w e = (
  whole_head w.text (drop r.len bytes) w.has
      (subst (λ (f : Result Framing HttpFault). Follows f (head_of w.text) (length (print_request w.text)) (drop r.len bytes) (Fault fault)) e refl),
  λ head x.
      let same = request_unique bytes x.text w.text x.rest (drop r.len bytes) x.has.reads w.has.reads in
      let f : head_framing head ≡ Err fault = ap head_framing (x.head_is ∙ ap head_of same.0) ∙ sym e in
      false≢true (sym (ap ok f) ∙ x.good),
)
  where
    ok : Result Framing HttpFault → Bool
    ok a = is_ok a
