-- No phrase is long.
use Rattle.std.proofs.Common.{◌≡◌, ◌∙◌, ap, sym, refl, ℕ, ◌≤◌, ◌<◌, Bool, true, false, List, [], length, Option, Some, arith}
use Rattle.std.specs.Prelude.{if◌then◌else◌, ◌&&◌, nat_le}
use Rattle.std.specs.Option.{unwrap_or}
use Rattle.std.proofs.lemmas.Bool.{cond-true, le-leb, leb-true}
use Rattle.http.specs.StatusCode.{reason_phrase}
use Rattle.http_reply.specs.Replies.{phrase}

short_if : (t : Bool) (a : List ℕ) (r : Option (List ℕ)) → length a ≤ 31 → length (unwrap_or r []) ≤ 31 → length (unwrap_or (if t then Some a else r) []) ≤ 31
short_if true a r x y = x
short_if false a r x y = y

reason_short : (status : ℕ) → length (unwrap_or (reason_phrase status) []) ≤ 31
reason_short status = search (arith, short_if) depth 200 fits 400

short_or_none : (t : Bool) (a : List ℕ) → length a ≤ 31 → length (if t then a else []) ≤ 31
short_or_none true a x = x
short_or_none false a x = omega arith

pub phrase_short : (status : ℕ) → length (phrase status) ≤ 31
unfolding phrase
phrase_short status = short_or_none (nat_le 100 status && nat_le status 999) (unwrap_or (reason_phrase status) []) (reason_short status)

both_true : (a b : Bool) → a ≡ true → b ≡ true → (a && b) ≡ true
both_true a b x y = grind (arith, x, y)

pub phrase_of_status : (status code : ℕ) (text : List ℕ) → code ≡ status → (100 ≤ status) × (status < 1000) → text ≡ unwrap_or (reason_phrase code) [] → text ≡ phrase status
unfolding phrase
phrase_of_status status code text e within t =
    let last : status ≤ 999 = omega (arith, within.1) in
    t ∙ ap (λ (n : ℕ). unwrap_or (reason_phrase n) []) e
    ∙ sym (cond-true _ _ _ (both_true (nat_le 100 status) (nat_le status 999) (le-leb 100 status within.0) (le-leb status 999 last)))

pub no_phrase : (status : ℕ) → ((100 ≤ status) × (status < 1000) → ⊥) → [] ≡ phrase status
unfolding phrase
no_phrase status none = by_tests (nat_le 100 status) (nat_le status 999) refl refl
  where
    by_tests : (t u : Bool) → nat_le 100 status ≡ t → nat_le status 999 ≡ u → [] ≡ (if t && u then unwrap_or (reason_phrase status) [] else [])
    by_tests false u e f = refl
    by_tests true false e f = refl
    by_tests true true e f =
        let a : 100 ≤ status = leb-true 100 status e in
        let b : status ≤ 999 = leb-true status 999 f in absurd (none (a, omega arith))
