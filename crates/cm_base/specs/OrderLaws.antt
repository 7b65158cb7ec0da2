-- That the order of values is a total order in which only equal values tie.
use Rattle.std.specs.Prelude.{◌≡◌, ℕ, Bool, true, false, ℤ, pos, List, [], ◌∷◌, refl}
use Rattle.std.proofs.Common.{ap, subst, true≢false}
use Rattle.std.specs.declared.cmp.Ordering.{Ordering}
use Rattle.std.specs.Ordering.{nat_cmp, int_cmp, bool_cmp, on, then_cmp, ordering_then, is_lt, is_gt}
use Rattle.std.specs.declared.cmp.Ordering.TheVariants.{Less, Equal, Greater}
use Rattle.std.specs.Cmp.{IsTotalOrder, nat_cmp_total, int_cmp_total, bool_cmp_total, then_total, on_total}
use Rattle.std.specs.Cmp.Lexicographic.{slice_cmp, nat_list_cmp_total, lists_total}
use Rattle.std.proofs.lemmas.Map.Lookups.{exact_signed, exact_bytes}
use Rattle.cm_base.specs.declared.value.Scalar.{Scalar}
use Rattle.cm_base.specs.declared.value.Scalar.TheVariants.{Flag, Whole, Time, Words}
use Rattle.cm_base.specs.declared.value.Value.{Value}
use Rattle.cm_base.specs.declared.value.Value.TheVariants.{Unset, One, Many}
use Rattle.cm_base.specs.Orders.{kind_place, scalar_order, value_order}

-- values that the order does not tell apart are one value
abbrev pub TiesAreEqual : {K : Type 0} → (K → K → Ordering) → Type 0
TiesAreEqual {K} R = (x y : K) → R x y ≡ Equal → x ≡ y

-- ---- scalars: by kind, and then by each kind's own part

flag_of : Scalar → Bool
flag_of (Flag a) = a
flag_of _ = false

number_of : Scalar → ℤ
number_of (Whole a) = a
number_of (Time a) = a
number_of _ = pos 0

words_of : Scalar → List ℕ
words_of (Words a) = a
words_of _ = []

by_parts : Scalar → Scalar → Ordering
by_parts = then_cmp (on kind_place nat_cmp) (then_cmp (on flag_of bool_cmp) (then_cmp (on number_of int_cmp) (on words_of (slice_cmp nat_cmp))))

by_parts-total : IsTotalOrder by_parts
unfolding by_parts
by_parts-total = then_total (on_total kind_place nat_cmp_total) (then_total (on_total flag_of bool_cmp_total) (then_total (on_total number_of int_cmp_total) (on_total words_of nat_list_cmp_total)))

then_Equal : (r : Ordering) → ordering_then r Equal ≡ r
then_Equal Less = refl
then_Equal Equal = refl
then_Equal Greater = refl

scalar-by_parts : (x y : Scalar) → by_parts x y ≡ scalar_order x y
unfolding by_parts flag_of number_of words_of
scalar-by_parts (Flag a) (Flag b) = then_Equal (bool_cmp a b)
scalar-by_parts (Flag a) (Whole b) = refl
scalar-by_parts (Flag a) (Time b) = refl
scalar-by_parts (Flag a) (Words b) = refl
scalar-by_parts (Whole a) (Flag b) = refl
scalar-by_parts (Whole a) (Whole b) = then_Equal (int_cmp a b)
scalar-by_parts (Whole a) (Time b) = refl
scalar-by_parts (Whole a) (Words b) = refl
scalar-by_parts (Time a) (Flag b) = refl
scalar-by_parts (Time a) (Whole b) = refl
scalar-by_parts (Time a) (Time b) = then_Equal (int_cmp a b)
scalar-by_parts (Time a) (Words b) = refl
scalar-by_parts (Words a) (Flag b) = refl
scalar-by_parts (Words a) (Whole b) = refl
scalar-by_parts (Words a) (Time b) = refl
scalar-by_parts (Words a) (Words b) = refl

pub scalar_order-total : IsTotalOrder scalar_order
scalar_order-total = subst IsTotalOrder (λ i x y. scalar-by_parts x y i) by_parts-total

exact_flags : (a b : Bool) → bool_cmp a b ≡ Equal → a ≡ b
exact_flags false false e = refl
exact_flags false true e = absurd (true≢false (ap is_lt e))
exact_flags true false e = absurd (true≢false (ap is_gt e))
exact_flags true true e = refl

less : {A : Type 0} → Less ≡ Equal → A
less e = absurd (true≢false (ap is_lt e))

greater : {A : Type 0} → Greater ≡ Equal → A
greater e = absurd (true≢false (ap is_gt e))

pub scalar_order-exact : TiesAreEqual scalar_order
scalar_order-exact (Flag a) (Flag b) e = ap Flag (exact_flags a b e)
scalar_order-exact (Flag a) (Whole b) e = less e
scalar_order-exact (Flag a) (Time b) e = less e
scalar_order-exact (Flag a) (Words b) e = less e
scalar_order-exact (Whole a) (Flag b) e = greater e
scalar_order-exact (Whole a) (Whole b) e = ap Whole (exact_signed a b e)
scalar_order-exact (Whole a) (Time b) e = less e
scalar_order-exact (Whole a) (Words b) e = less e
scalar_order-exact (Time a) (Flag b) e = greater e
scalar_order-exact (Time a) (Whole b) e = greater e
scalar_order-exact (Time a) (Time b) e = ap Time (exact_signed a b e)
scalar_order-exact (Time a) (Words b) e = less e
scalar_order-exact (Words a) (Flag b) e = greater e
scalar_order-exact (Words a) (Whole b) e = greater e
scalar_order-exact (Words a) (Time b) e = greater e
scalar_order-exact (Words a) (Words b) e = ap Words (exact_bytes a b e)

-- ---- values: by kind, and then by the list of scalars

value_place : Value → ℕ
value_place Unset = 0
value_place (One _) = 1
value_place (Many _) = 2

scalars_of : Value → List Scalar
scalars_of Unset = []
scalars_of (One a) = a ∷ []
scalars_of (Many xs) = xs

by_lists : Value → Value → Ordering
by_lists = then_cmp (on value_place nat_cmp) (on scalars_of (slice_cmp scalar_order))

by_lists-total : IsTotalOrder by_lists
unfolding by_lists
by_lists-total = then_total (on_total value_place nat_cmp_total) (on_total scalars_of (lists_total scalar_order-total))

value-by_lists : (x y : Value) → by_lists x y ≡ value_order x y
unfolding by_lists value_place scalars_of
value-by_lists Unset Unset = refl
value-by_lists Unset (One b) = refl
value-by_lists Unset (Many ys) = refl
value-by_lists (One a) Unset = refl
value-by_lists (One a) (One b) = then_Equal (scalar_order a b)
value-by_lists (One a) (Many ys) = refl
value-by_lists (Many xs) Unset = refl
value-by_lists (Many xs) (One b) = refl
value-by_lists (Many xs) (Many ys) = refl

pub value_order-total : IsTotalOrder value_order
value_order-total = subst IsTotalOrder (λ i x y. value-by_lists x y i) by_lists-total

both_Equal : (a b : Ordering) → ordering_then a b ≡ Equal → (a ≡ Equal) × (b ≡ Equal)
both_Equal Less b e = less e
both_Equal Equal b e = (refl, e)
both_Equal Greater b e = greater e

lists-exact : {K : Type 0} {R : K → K → Ordering} → TiesAreEqual R → (xs ys : List K) → slice_cmp R xs ys ≡ Equal → xs ≡ ys
lists-exact t [] [] e = refl
lists-exact t [] (y ∷ ys) e = less e
lists-exact t (x ∷ xs) [] e = greater e
lists-exact {K} {R} t (x ∷ xs) (y ∷ ys) e = let both = both_Equal (R x y) (slice_cmp R xs ys) e in λ i. t x y both.0 i ∷ lists-exact t xs ys both.1 i

pub value_order-exact : TiesAreEqual value_order
value_order-exact Unset Unset e = refl
value_order-exact Unset (One b) e = less e
value_order-exact Unset (Many ys) e = less e
value_order-exact (One a) Unset e = greater e
value_order-exact (One a) (One b) e = ap One (scalar_order-exact a b e)
value_order-exact (One a) (Many ys) e = less e
value_order-exact (Many xs) Unset e = greater e
value_order-exact (Many xs) (One b) e = greater e
value_order-exact (Many xs) (Many ys) e = ap Many (lists-exact scalar_order-exact xs ys e)
