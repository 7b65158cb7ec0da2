-- What a bound condition says of a row (CMIS 1.1, section 2.1.14.2).
use Rattle.std.specs.Prelude.{ℕ, Bool, true, false, ◌||◌, not, List, Option, Some, None, bytes_eq, if◌then◌else◌}
use Rattle.std.specs.List.{list_any}
use Rattle.core.specs.declared.cmp.Ordering.{Ordering}
use Rattle.core.specs.Ordering.{is_eq, is_ne, is_lt, is_gt, is_le, is_ge}
use Rattle.cm_base.specs.declared.number.Oid.{Oid}
use Rattle.cm_base.specs.declared.value.Scalar.{Scalar}
use Rattle.cm_base.specs.declared.value.Scalar.TheVariants.{Words}
use Rattle.cm_base.specs.declared.value.Value.{Value}
use Rattle.cm_base.specs.declared.value.Value.TheVariants.{Unset, One, Many}
use Rattle.cm_base.specs.Orders.{scalar_order}
use Rattle.cm_types.specs.Properties.{value_in, is_set}
use Rattle.cmis_spec.specs.Repository.{same}
use Rattle.ql_tree.specs.declared.tree.Comparison.{Comparison}
use Rattle.ql_tree.specs.declared.tree.Comparison.TheVariants as comparisons
use Rattle.ql_bind.specs.declared.bound.Piece.{Piece}
use Rattle.ql_bind.specs.declared.bound.Condition.{Condition}
use Rattle.ql_bind.specs.declared.bound.Condition.TheOpen.{Condition-F}
use Rattle.ql_bind.specs.declared.bound.Condition.TheFolds.{fold-Condition}
use Rattle.ql_bind.specs.declared.bound.Bound.{Bound}
use Rattle.ql_eval.specs.declared.row.Row.{Row}
use Rattle.ql_eval.specs.declared.truth.Truth.{Truth}
use Rattle.ql_eval.specs.declared.truth.Truth.TheVariants.{Fails, Unknown}
use Rattle.ql_eval.specs.Truths.{truth_of, opposite, opposite_if, both, either, holds}
use Rattle.ql_eval.specs.Likes.{likes}

-- how the column's scalar stands to the constant
abbrev pub meets : Comparison → Ordering → Bool
meets comparisons.Equal o = is_eq o
meets comparisons.NotEqual o = is_ne o
meets comparisons.Less o = is_lt o
meets comparisons.Greater o = is_gt o
meets comparisons.LessEqual o = is_le o
meets comparisons.GreaterEqual o = is_ge o

-- a test of one value; of what is unset it is unknown
abbrev pub compared : Comparison → Scalar → Value → Truth
compared by s (One x) = truth_of (meets by (scalar_order x s))
compared by s _ = Unknown

abbrev pub is_among : List Scalar → Scalar → Bool
is_among ss x = list_any (λ s. is_eq (scalar_order x s)) ss

-- IN is an OR of equalities
abbrev pub is_in : List Scalar → Value → Truth
is_in ss (One x) = truth_of (is_among ss x)
is_in ss _ = Unknown

abbrev pub is_wanted : Bool → List Scalar → Scalar → Bool
is_wanted negated ss x = if negated then not (is_among ss x) else is_among ss x

-- ANY: one of the values is in the list; with NOT, one of them is not
abbrev pub any_in : Bool → List Scalar → Value → Truth
any_in negated ss Unset = Unknown
any_in negated ss (One x) = truth_of (is_wanted negated ss x)
any_in negated ss (Many xs) = truth_of (list_any (is_wanted negated ss) xs)

abbrev pub is_like : List Piece → Value → Truth
is_like ps (One (Words text)) = truth_of (likes ps text)
is_like ps _ = Unknown

-- IS NULL is never unknown
abbrev pub is_null : Bool → Value → Truth
is_null negated v = truth_of (if negated then is_set v else not (is_set v))

-- one of the folders; no folder where the text is no id
abbrev pub is_one_of : List Oid → Option Oid → Truth
is_one_of folders None = Fails
is_one_of folders (Some f) = truth_of (list_any (same f) folders)

-- the parts of a condition are true, false or unknown already
abbrev pub truth_step : Row → Condition-F Truth → Truth
truth_step row (Condition-F.Or a b) = either a b
truth_step row (Condition-F.And a b) = both a b
truth_step row (Condition-F.Not a) = opposite a
truth_step row (Condition-F.Compare id by s) = compared by s (value_in row.values id)
truth_step row (Condition-F.In id negated ss) = opposite_if negated (is_in ss (value_in row.values id))
truth_step row (Condition-F.AnyIn id negated ss) = any_in negated ss (value_in row.values id)
truth_step row (Condition-F.Like id negated ps) = opposite_if negated (is_like ps (value_in row.values id))
truth_step row (Condition-F.Null id negated) = is_null negated (value_in row.values id)
truth_step row (Condition-F.InFolder f) = is_one_of row.folders f
truth_step row (Condition-F.InTree f) = is_one_of row.above f

abbrev pub truth : Row → Condition → Truth
truth row = fold-Condition Truth (truth_step row)

-- WHERE keeps what is true; without it every row is kept
abbrev pub keeps_by : Option Condition → Row → Bool
keeps_by None row = true
keeps_by (Some x) row = holds (truth row x)

abbrev pub keeps : Bound → Row → Bool
keeps bound row = keeps_by bound.filter row

-- ---- which properties a condition names

abbrev pub mention_step : List ℕ → Condition-F Bool → Bool
mention_step id (Condition-F.Or a b) = a || b
mention_step id (Condition-F.And a b) = a || b
mention_step id (Condition-F.Not a) = a
mention_step id (Condition-F.Compare other by s) = bytes_eq other id
mention_step id (Condition-F.In other negated ss) = bytes_eq other id
mention_step id (Condition-F.AnyIn other negated ss) = bytes_eq other id
mention_step id (Condition-F.Like other negated ps) = bytes_eq other id
mention_step id (Condition-F.Null other negated) = bytes_eq other id
mention_step id (Condition-F.InFolder f) = false
mention_step id (Condition-F.InTree f) = false

-- the condition names the property with this id
abbrev pub mentions : List ℕ → Condition → Bool
mentions id = fold-Condition Bool (mention_step id)

-- WHERE tests the property; without it none is tested
abbrev pub tests_by : Option Condition → List ℕ → Bool
tests_by None id = false
tests_by (Some x) id = mentions id x

abbrev pub tests : Bound → List ℕ → Bool
tests bound id = tests_by bound.filter id
