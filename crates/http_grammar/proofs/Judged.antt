-- When a head is judged: never inside a target, always once it is whole, and from then on.
use Rattle.std.proofs.Common.{◌≡◌, true, false, Bool, List, [], ◌∷◌, ◌++◌, refl, sym, ap, ◌∙◌, append_assoc, if◌then◌else◌, ◌==◌, ◌||◌}
use Rattle.std.proofs.Common.{ℕ, IsTrue}
use Rattle.std.proofs.lemmas.List.Elements.{All-head, All-tail}
use Rattle.std.proofs.lemmas.Bool.{eqb-true, false≢true}
use Rattle.httparse.proofs.GrammarLemmas.{print_request-append}
use Rattle.http_grammar.specs.Judged.{is_judged, has_line_feed, is_line_byte}
use Rattle.httparse.specs.Grammar.{LineEnd, crlf, lf, print_end, print_blank, print_version, print_section, RequestHead, ReadsRequest, EndsInTarget, AllPass, is_token_byte, is_uri_byte}

-- by the cases of a test
both : (t : Bool) {a b c : Bool} → a ≡ c → b ≡ c → (if t then a else b) ≡ c
both true x y = x
both false x y = y

map_both : (t : Bool) {a b c d v : Bool} → (a ≡ v → c ≡ v) → (b ≡ v → d ≡ v) → (if t then a else b) ≡ v → (if t then c else d) ≡ v
map_both true f g e = f e
map_both false f g e = g e

-- once there is a line feed, there is one
pub has_line_feed-append : (a b : List ℕ) → has_line_feed a ≡ true → has_line_feed (a ++ b) ≡ true
has_line_feed-append [] b e = absurd (cc)
has_line_feed-append (x ∷ a) b e = map_both (x == 10) (λ _. refl) (has_line_feed-append a b) e

pub is_judged-append : (a b : List ℕ) → is_judged a ≡ true → is_judged (a ++ b) ≡ true
is_judged-append [] b e = absurd (cc)
is_judged-append (x ∷ a) b e = map_both (is_line_byte x) (is_judged-append a b) (has_line_feed-append a b) e

-- empty lines don't count
pub is_judged-blank : (ends : List LineEnd) (rest : List ℕ) → is_judged (print_blank ends ++ rest) ≡ is_judged rest
is_judged-blank [] rest = refl
is_judged-blank (crlf ∷ ends) rest = is_judged-blank ends rest
is_judged-blank (lf ∷ ends) rest = is_judged-blank ends rest

has_line_feed-after : (a b : List ℕ) → has_line_feed b ≡ true → has_line_feed (a ++ b) ≡ true
has_line_feed-after [] b e = e
has_line_feed-after (x ∷ a) b e = both (x == 10) refl (has_line_feed-after a b e)

has_line_feed-end : (end : LineEnd) (rest : List ℕ) → has_line_feed (print_end end ++ rest) ≡ true
has_line_feed-end crlf rest = refl
has_line_feed-end lf rest = refl

-- a space, and then a line feed, are enough
judged_after_space : (method rest : List ℕ) → has_line_feed rest ≡ true → is_judged (method ++ 32 ∷ rest) ≡ true
judged_after_space [] rest e = e
judged_after_space (x ∷ method) rest e =
    both (is_line_byte x) (judged_after_space method rest e) (has_line_feed-after method (32 ∷ rest) e)

-- what begins with a whole head is judged
pub head_is_judged : (buf : List ℕ) (h : RequestHead) (rest : List ℕ) → ReadsRequest buf h rest → is_judged buf ≡ true
head_is_judged buf h rest x =
    rw (x.1, print_request-append h rest, is_judged-blank)
    (judged_after_space h.method _
    (has_line_feed-after h.target _ (has_line_feed-after (32 ∷ print_version h.minor) (print_end h.line_end ++ (print_section h.fields h.last ++ rest)) (has_line_feed-end h.line_end (print_section h.fields h.last ++ rest)))))

-- a byte that passes isn't a line feed, where a line feed doesn't pass
not_line_feed : (test : ℕ → Bool) → test 10 ≡ false → (x : ℕ) → IsTrue (test x) → (x == 10) ≡ false
not_line_feed test none x pass = by_test (x == 10) refl
  where
    by_test : (t : Bool) → (x == 10) ≡ t → t ≡ false
    by_test false e = refl
    by_test true e = absurd (false≢true (sym none ∙ ap test (sym (eqb-true x 10 e)) ∙ pass))

no_line_feed : (test : ℕ → Bool) → test 10 ≡ false → (bytes : List ℕ) → AllPass test bytes → has_line_feed bytes ≡ false
no_line_feed test none [] all = refl
no_line_feed test none (x ∷ bytes) all =
    let first : (x == 10) ≡ false = not_line_feed test none x (All-head (λ v. IsTrue (test v)) x bytes all) in
    rw first (no_line_feed test none bytes (All-tail (λ v. IsTrue (test v)) x bytes all))

no_line_feed-append : (a b : List ℕ) → has_line_feed a ≡ false → has_line_feed b ≡ false → has_line_feed (a ++ b) ≡ false
no_line_feed-append [] b none e = e
no_line_feed-append (x ∷ a) b none e = map_both (x == 10) (λ z. z) (λ none'. no_line_feed-append a b none' e) none

judged_has_line_feed : (bytes : List ℕ) → has_line_feed bytes ≡ false → is_judged bytes ≡ false
judged_has_line_feed [] none = refl
judged_has_line_feed (x ∷ bytes) none = step (x == 13) (x == 10) none (judged_has_line_feed bytes)
  where
    step : (u t : Bool) → (if t then true else has_line_feed bytes) ≡ false → (has_line_feed bytes ≡ false → is_judged bytes ≡ false)
        → (if u || t then is_judged bytes else has_line_feed bytes) ≡ false
    step u true none' ih = absurd (cc)
    step true false none' ih = ih none'
    step false false none' ih = none'

-- inside a target nothing is judged yet: this is where the parser waits for the target's end
pub target_is_not_judged : (buf : List ℕ) → EndsInTarget buf → is_judged buf ≡ false
unfolding is_token_byte
target_is_not_judged buf (blank, method, target, token, uri, e) =
    rw (e, append_assoc, is_judged-blank)
    (judged_has_line_feed (method ++ 32 ∷ target) (no_line_feed-append method (32 ∷ target)
    (no_line_feed is_token_byte refl method token.1) (no_line_feed is_uri_byte refl target uri)))
