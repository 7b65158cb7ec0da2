-- Texts where they stand first, one by one.
use Rattle.std.proofs.Common.{◌≡◌, ◌∙◌, ℕ, ◌+◌, ◌<◌, Bool, true, false, cond, not, ◌||◌, List, [], ◌∷◌, ◌++◌, length, take, get_or, refl, sym, ap, append-nil}
use Rattle.std.specs.Prelude.{bytes_eq, filter}
use Rattle.std.specs.List.{list_any}
use Rattle.std.specs.Cmp.Lexicographic.{texts_ties}
use Rattle.std.proofs.lemmas.Cmp.{nat_list_eq_equiv}
use Rattle.std.proofs.lemmas.List.Elements.{filter-append}
use Rattle.std.proofs.lemmas.List.{take_more}
use Rattle.core.specs.Ordering.{nat_cmp, eq_by_cmp}
use Rattle.core.specs.Cmp.Lexicographic.{slice_cmp}
use Rattle.cm_map.specs.Sets.{has_key}
use Rattle.wr_rules.specs.Rules.{distinct}
use Rattle.wr_rules.specs.Firsts.{with_first, HasAll}

-- a text that is one is not the other
apart : (x t s : List ℕ) → bytes_eq x t ≡ false → bytes_eq s t ≡ true → bytes_eq s x ≡ false
apart x t s n e = nat_list_eq_equiv.congr s t x e ∙ nat_list_eq_equiv.symm t x ∙ n

any_by : (x t s : List ℕ) (ts : List (List ℕ)) (b : Bool) → bytes_eq x t ≡ false → bytes_eq s t ≡ b
    → list_any (λ s. bytes_eq s t) (filter (λ s. not (bytes_eq s x)) ts) ≡ list_any (λ s. bytes_eq s t) ts
    → list_any (λ s. bytes_eq s t) (filter (λ s. not (bytes_eq s x)) (s ∷ ts)) ≡ (b || list_any (λ s. bytes_eq s t) ts)
any_by x t s ts true n e h =
    let rest = filter (λ s. not (bytes_eq s x)) ts in
    ap (λ b. list_any (λ s. bytes_eq s t) (cond (not b) (s ∷ rest) rest)) (apart x t s n e)
    ∙ ap (λ b. b || list_any (λ s. bytes_eq s t) rest) e
any_by x t s ts false n e h =
    let rest = filter (λ s. not (bytes_eq s x)) ts in
    kept (bytes_eq s x) rest ∙ h
  where
    kept : (b : Bool) (rest : List (List ℕ)) → list_any (λ s. bytes_eq s t) (cond (not b) (s ∷ rest) rest) ≡ list_any (λ s. bytes_eq s t) rest
    kept true rest = refl
    kept false rest = ap (λ b. b || list_any (λ s. bytes_eq s t) rest) e

any_other : (x t : List ℕ) (ts : List (List ℕ)) → bytes_eq x t ≡ false
    → list_any (λ s. bytes_eq s t) (filter (λ s. not (bytes_eq s x)) ts) ≡ list_any (λ s. bytes_eq s t) ts
any_other x t [] n = refl
any_other x t (s ∷ ts) n = any_by x t s ts (bytes_eq s t) n refl (any_other x t ts n)

-- filtering one more
filter_one : (x t : List ℕ) (ts : List (List ℕ)) (b : Bool) → bytes_eq t x ≡ b
    → filter (λ s. not (bytes_eq s x)) (ts ++ t ∷ []) ≡ cond b (filter (λ s. not (bytes_eq s x)) ts) (filter (λ s. not (bytes_eq s x)) ts ++ t ∷ [])
filter_one x t ts true e =
    filter-append (λ s. not (bytes_eq s x)) ts (t ∷ [])
    ∙ ap (λ b. filter (λ s. not (bytes_eq s x)) ts ++ cond (not b) (t ∷ []) []) e ∙ append-nil (filter (λ s. not (bytes_eq s x)) ts)
filter_one x t ts false e =
    filter-append (λ s. not (bytes_eq s x)) ts (t ∷ [])
    ∙ ap (λ b. filter (λ s. not (bytes_eq s x)) ts ++ cond (not b) (t ∷ []) []) e

-- behind a first text x
behind : (x t : List ℕ) (ts : List (List ℕ)) (same found : Bool) → bytes_eq x t ≡ same → list_any (λ s. bytes_eq s t) ts ≡ found
    → (x ∷ filter (λ s. not (bytes_eq s x)) (cond found ts (ts ++ t ∷ [])))
    ≡ cond (same || list_any (λ s. bytes_eq s t) (filter (λ s. not (bytes_eq s x)) ts)) (x ∷ filter (λ s. not (bytes_eq s x)) ts) ((x ∷ filter (λ s. not (bytes_eq s x)) ts) ++ t ∷ [])
behind x t ts true true e f = refl
behind x t ts true false e f = ap (λ l. x ∷ l) (filter_one x t ts true (nat_list_eq_equiv.symm t x ∙ e))
behind x t ts false true e f =
    let rest = filter (λ s. not (bytes_eq s x)) ts in
    sym (ap (λ b. cond b (x ∷ rest) ((x ∷ rest) ++ t ∷ [])) (any_other x t ts e ∙ f))
behind x t ts false false e f =
    let rest = filter (λ s. not (bytes_eq s x)) ts in
    ap (λ l. x ∷ l) (filter_one x t ts false (nat_list_eq_equiv.symm t x ∙ e))
    ∙ sym (ap (λ b. cond b (x ∷ rest) ((x ∷ rest) ++ t ∷ [])) (any_other x t ts e ∙ f))

-- the test from the other side
any_turned : (t : List ℕ) (ts : List (List ℕ)) → list_any (λ s. bytes_eq s t) ts ≡ list_any (bytes_eq t) ts
any_turned t [] = refl
any_turned t (s ∷ ts) = λ i. nat_list_eq_equiv.symm s t i || any_turned t ts i

distinct_more : (ts : List (List ℕ)) (t : List ℕ) → distinct (ts ++ t ∷ []) ≡ cond (list_any (λ s. bytes_eq s t) (distinct ts)) (distinct ts) (distinct ts ++ t ∷ [])
distinct_more [] t = refl
distinct_more (x ∷ ts) t =
    ap (λ l. x ∷ filter (λ s. not (bytes_eq s x)) l) (distinct_more ts t)
    ∙ behind x t (distinct ts) (bytes_eq x t) (list_any (λ s. bytes_eq s t) (distinct ts)) refl refl

-- the text at place i is the next one
pub distinct_next : (ts : List (List ℕ)) (i : ℕ) (d : List ℕ) → i < length ts → distinct (take (i + 1) ts) ≡ with_first (distinct (take i ts)) (get_or ts i d)
distinct_next ts i d lt =
    ap distinct (take_more ts i d lt)
    ∙ distinct_more (take i ts) (get_or ts i d)
    ∙ ap (λ b. cond b (distinct (take i ts)) (distinct (take i ts) ++ get_or ts i d ∷ [])) (any_turned (get_or ts i d) (distinct (take i ts)))

any_last : (p : List ℕ → Bool) (ts : List (List ℕ)) (t : List ℕ) → (p t || list_any p ts) ≡ list_any p (ts ++ t ∷ [])
any_last p [] t = refl
any_last p (s ∷ ts) t = turned (p t) (p s) (list_any p ts) ∙ ap (λ b. p s || b) (any_last p ts t)
  where
    turned : (a b c : Bool) → (a || (b || c)) ≡ (b || (a || c))
    turned true true c = refl
    turned true false c = refl
    turned false b c = refl

-- a text more in the list and in the set
pub has_more : (list all more : List (List ℕ)) (t : List ℕ) → HasAll list all
    → ((q : List ℕ) → has_key (slice_cmp nat_cmp) q more ≡ (eq_by_cmp (slice_cmp nat_cmp) q t || has_key (slice_cmp nat_cmp) q all)) → HasAll (list ++ t ∷ []) more
has_more list all more t h k q = k q ∙ (λ i. sym (texts_ties q t) i || h q i) ∙ any_last (bytes_eq q) list t
