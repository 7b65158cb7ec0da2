-- The order of values: unset, then one scalar, then several.
use Rattle.std.specs.Prelude.{ℕ}
use Rattle.std.specs.declared.cmp.Ordering.{Ordering}
use Rattle.std.specs.Ordering.{nat_cmp, int_cmp, bool_cmp}
use Rattle.std.specs.declared.cmp.Ordering.TheVariants.{Less, Equal, Greater}
use Rattle.std.specs.Cmp.Lexicographic.{slice_cmp}
use Rattle.cm_base.specs.declared.value.Scalar.{Scalar}
use Rattle.cm_base.specs.declared.value.Scalar.TheVariants.{Flag, Whole, Time, Words}
use Rattle.cm_base.specs.declared.value.Value.{Value}
use Rattle.cm_base.specs.declared.value.Value.TheVariants.{Unset, One, Many}

-- the place of a scalar's kind
abbrev pub kind_place : Scalar → ℕ
kind_place (Flag _) = 0
kind_place (Whole _) = 1
kind_place (Time _) = 2
kind_place (Words _) = 3

-- false before true, numbers and moments by size, texts by bytes; scalars of two kinds by the kinds' places
abbrev pub scalar_order : Scalar → Scalar → Ordering
scalar_order (Flag a) (Flag b) = bool_cmp a b
scalar_order (Whole a) (Whole b) = int_cmp a b
scalar_order (Time a) (Time b) = int_cmp a b
scalar_order (Words a) (Words b) = slice_cmp nat_cmp a b
scalar_order a b = nat_cmp (kind_place a) (kind_place b)

-- unset before one before several; lists by their items, a list before those that it begins
abbrev pub value_order : Value → Value → Ordering
value_order Unset Unset = Equal
value_order Unset (One _) = Less
value_order Unset (Many _) = Less
value_order (One _) Unset = Greater
value_order (One a) (One b) = scalar_order a b
value_order (One _) (Many _) = Less
value_order (Many _) Unset = Greater
value_order (Many _) (One _) = Greater
value_order (Many xs) (Many ys) = slice_cmp scalar_order xs ys
