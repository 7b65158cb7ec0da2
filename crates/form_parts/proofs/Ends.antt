-- Where lines end.
use Rattle.std.proofs.Common.{◌≡◌, ℕ, zero, suc, ◌+◌, ◌<◌, List, [], ◌∷◌, ◌++◌, take, drop, get_or, true, false, ◌&&◌, eqb, refl, ap, ◌∙◌, arith}
use Rattle.std.proofs.lemmas.Bool.{eqb-true}
use Rattle.std.specs.Prelude.{Option, Some, None, IfSome, IfNone}
use Rattle.memchr.specs.Find.{OccursAt, FindsNeedle}
use Rattle.form_parts.specs.Reading.{begins_crlf, onto_first, off_first, lines_of}

pub record Begins (xs : List ℕ) : Type 0 where
  pub first : List ℕ
  pub more : List (List ℕ)
  pub same : lines_of xs ≡ first ∷ more

onto_begins : (x : ℕ) (ls : List (List ℕ)) → (first : List ℕ) × (more : List (List ℕ)) × (onto_first x ls ≡ first ∷ more)
onto_begins x [] = (x ∷ [], [], refl)
onto_begins x (l ∷ ls) = (x ∷ l, ls, refl)

pub lines_begin : (xs : List ℕ) → Begins xs
unfolding lines_of
lines_begin [] = record { first = []; more = []; same = refl }
lines_begin (x ∷ xs) = elim (begins_crlf (x ∷ xs)) as (λ t. (begins_crlf (x ∷ xs) ≡ t) → Begins (x ∷ xs)) [
  | true ↦ λ e. record { first = []; more = off_first (lines_of xs); same = rw e refl }
  | false ↦ λ e. let o = onto_begins x (lines_of xs) in record { first = o.0; more = o.1; same = rw e o.2 }
] refl

pub lines-other : (x : ℕ) (xs : List ℕ) → begins_crlf (x ∷ xs) ≡ false → lines_of (x ∷ xs) ≡ onto_first x (lines_of xs)
unfolding lines_of
lines-other x xs e = rw e refl

off_onto : (x : ℕ) (ls : List (List ℕ)) (first : List ℕ) (more : List (List ℕ)) → ls ≡ first ∷ more → off_first (onto_first x ls) ≡ ls
off_onto x ls first more e = rw e refl

lf_first : (ys : List ℕ) → begins_crlf (10 ∷ ys) ≡ false
lf_first [] = refl
lf_first (y ∷ ys) = refl

pub lines-crlf : (ys : List ℕ) → lines_of (13 ∷ (10 ∷ ys)) ≡ [] ∷ lines_of ys
unfolding lines_of
lines-crlf ys = let b = lines_begin ys in ap (λ ls. [] ∷ off_first ls) (lines-other 10 ys (lf_first ys)) ∙ ap (λ ls. [] ∷ ls) (off_onto 10 (lines_of ys) b.first b.more b.same)

pub Occurs-shift : (x : ℕ) (xs : List ℕ) (k : ℕ) → OccursAt xs (13 ∷ (10 ∷ [])) k → OccursAt (x ∷ xs) (13 ∷ (10 ∷ [])) (suc k)
Occurs-shift x xs k h = record { fits = omega (arith, h.fits); reads = λ j lt. let e : suc k + j ≡ suc (k + j) = omega arith in rw e (h.reads j lt) }

pub Occurs-unshift : (x : ℕ) (xs : List ℕ) (k : ℕ) → OccursAt (x ∷ xs) (13 ∷ (10 ∷ [])) (suc k) → OccursAt xs (13 ∷ (10 ∷ [])) k
Occurs-unshift x xs k h = record { fits = omega (arith, h.fits); reads = λ j lt. let e : suc k + j ≡ suc (k + j) = omega arith in rw e at (h.reads j lt) }

two_reads : (a b x y : ℕ) → a ≡ x → b ≡ y → (zs : List ℕ) → (j : ℕ) → j < 2 → get_or (a ∷ (b ∷ zs)) (0 + j) 0 ≡ get_or (x ∷ (y ∷ [])) j 0
two_reads a b x y p q zs zero lt = p
two_reads a b x y p q zs (suc zero) lt = q
two_reads a b x y p q zs (suc (suc j)) lt = absurd (omega arith)

pub begins_is : (xs : List ℕ) → begins_crlf xs ≡ true → (ys : List ℕ) × (xs ≡ 13 ∷ (10 ∷ ys))
begins_is [] e = absurd (cc)
begins_is (x ∷ []) e = absurd (cc)
begins_is (x ∷ (y ∷ ys)) e =
    let p : x ≡ 13 = eqb-true x 13 (elim (eqb x 13) as (λ t. (t && eqb y 10) ≡ true → t ≡ true) [ true ↦ λ h. refl | false ↦ λ h. h ] e) in
    let q : y ≡ 10 = eqb-true y 10 (elim (eqb x 13) as (λ t. (t && eqb y 10) ≡ true → eqb y 10 ≡ true) [ true ↦ λ h. h | false ↦ λ h. absurd (cc) ] e) in
    (ys, rw (p, q) refl)

pub begins_occurs : (xs : List ℕ) → begins_crlf xs ≡ true → OccursAt xs (13 ∷ (10 ∷ [])) 0
begins_occurs xs e =
    let b = begins_is xs e in
    rw (b.1) (record { fits = omega arith; reads = λ j lt. two_reads 13 10 13 10 refl refl b.0 j lt })

pub occurs_begins : (xs : List ℕ) → OccursAt xs (13 ∷ (10 ∷ [])) 0 → (ys : List ℕ) × (xs ≡ 13 ∷ (10 ∷ ys))
occurs_begins [] h = absurd (let f = h.fits in omega (arith, f))
occurs_begins (x ∷ []) h = absurd (let f = h.fits in omega (arith, f))
occurs_begins (x ∷ (y ∷ ys)) h =
    let p : x ≡ 13 = h.reads 0 (omega arith) in
    let q : y ≡ 10 = h.reads 1 (omega arith) in
    (ys, rw (p, q) refl)

first_cut : (xs ys : List ℕ) → xs ≡ 13 ∷ (10 ∷ ys) → lines_of xs ≡ take 0 xs ∷ lines_of (drop (0 + 2) xs)
first_cut xs ys e = rw e (lines-crlf ys)

first_split : (xs ys : List ℕ) → xs ≡ 13 ∷ (10 ∷ ys) → xs ≡ take 0 xs ++ (13 ∷ (10 ∷ drop (0 + 2) xs))
first_split xs ys e = rw e refl

-- the first line ends at the first line end
pub lines-cut : (xs : List ℕ) (end : ℕ) → OccursAt xs (13 ∷ (10 ∷ [])) end → ((k : ℕ) → k < end → OccursAt xs (13 ∷ (10 ∷ [])) k → ⊥)
    → lines_of xs ≡ take end xs ∷ lines_of (drop (end + 2) xs)
lines-cut [] end h before = absurd (let f = h.fits in omega (arith, f))
lines-cut (x ∷ xs) zero h before = let b = occurs_begins (x ∷ xs) h in first_cut (x ∷ xs) b.0 b.1
lines-cut (x ∷ xs) (suc end) h before =
    let later = lines-cut xs end (Occurs-unshift x xs end h) (λ k lt o. before (suc k) (omega arith) (Occurs-shift x xs k o)) in
    let no : begins_crlf (x ∷ xs) ≡ false = elim (begins_crlf (x ∷ xs)) as (λ t. (begins_crlf (x ∷ xs) ≡ t) → t ≡ false) [
      | true ↦ λ e. absurd (before 0 (omega arith) (begins_occurs (x ∷ xs) e))
      | false ↦ λ e. refl
    ] refl in
    let place : suc end + 2 ≡ suc (end + 2) = omega arith in
    rw place (lines-other x xs no ∙ rw later refl)

-- a text with no line end is one line
pub lines-one : (xs : List ℕ) → ((k : ℕ) → OccursAt xs (13 ∷ (10 ∷ [])) k → ⊥) → lines_of xs ≡ xs ∷ []
unfolding lines_of
lines-one [] none = refl
lines-one (x ∷ xs) none =
    let later = lines-one xs (λ k o. none (suc k) (Occurs-shift x xs k o)) in
    let no : begins_crlf (x ∷ xs) ≡ false = elim (begins_crlf (x ∷ xs)) as (λ t. (begins_crlf (x ∷ xs) ≡ t) → t ≡ false) [
      | true ↦ λ e. absurd (none 0 (begins_occurs (x ∷ xs) e))
      | false ↦ λ e. refl
    ] refl in
    lines-other x xs no ∙ rw later refl

-- what the search for a line end tells of the lines
pub found_line : (xs : List ℕ) (r : Option ℕ) → FindsNeedle xs (13 ∷ (10 ∷ [])) 0 r → IfSome r (λ end. lines_of xs ≡ take end xs ∷ lines_of (drop (end + 2) xs))
found_line xs None h = tt
found_line xs (Some end) h = lines-cut xs end h.1 (λ k lt. h.0.before k (omega arith) lt)

pub found_none : (xs : List ℕ) (r : Option ℕ) → FindsNeedle xs (13 ∷ (10 ∷ [])) 0 r → IfNone r (lines_of xs ≡ xs ∷ [])
found_none xs None h = lines-one xs (λ k o. h k (omega arith) (let f = o.fits in omega (arith, f)) o)
found_none xs (Some end) h = tt

line_split : (xs : List ℕ) (end : ℕ) → OccursAt xs (13 ∷ (10 ∷ [])) end → xs ≡ take end xs ++ (13 ∷ (10 ∷ drop (end + 2) xs))
line_split [] end h = absurd (let f = h.fits in omega (arith, f))
line_split (x ∷ xs) zero h = let b = occurs_begins (x ∷ xs) h in first_split (x ∷ xs) b.0 b.1
line_split (x ∷ xs) (suc end) h =
    let place : suc end + 2 ≡ suc (end + 2) = omega arith in
    rw place (ap (λ l. x ∷ l) (line_split xs end (Occurs-unshift x xs end h)))

pub found_split : (xs : List ℕ) (r : Option ℕ) → FindsNeedle xs (13 ∷ (10 ∷ [])) 0 r → IfSome r (λ end. xs ≡ take end xs ++ (13 ∷ (10 ∷ drop (end + 2) xs)))
found_split xs None h = tt
found_split xs (Some end) h = line_split xs end h.1
