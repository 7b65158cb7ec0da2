-- Every row at which a condition is true fits its keys, one kind of condition after another.
use Rattle.std.proofs.Common.{◌≡◌, ◌∙◌, ℕ, Bool, true, false, List, [], ◌∷◌, ◌++◌, refl, sym, ap, subst, true≢false}
use Rattle.std.specs.Prelude.{All, Result, Ok, Err, OnOk, Option, Some, None, bytes_eq, codes}
use Rattle.std.specs.List.{list_any}
use Rattle.core.specs.declared.cmp.Ordering.{Ordering}
use Rattle.core.specs.declared.cmp.Ordering.TheVariants.{Less, Equal, Greater}
use Rattle.core.specs.Ordering.{is_eq}
use Rattle.std.proofs.lemmas.List.Elements.{All-nil, All-cons, All-append, All-weaker}
use Rattle.cm_base.specs.declared.number.Oid.{Oid}
use Rattle.cm_base.specs.declared.value.Scalar.{Scalar}
use Rattle.cm_base.specs.declared.value.Scalar.TheVariants.{Flag, Whole, Time, Words}
use Rattle.cm_base.specs.declared.value.Value.{Value}
use Rattle.cm_base.specs.declared.value.Value.TheVariants.{Unset, One, Many}
use Rattle.cm_base.specs.Orders.{scalar_order}
use Rattle.cm_base.specs.OrderLaws.{value_order-exact}
use Rattle.cm_types.specs.Properties.{value_in}
use Rattle.cmis_spec.specs.Repository.{same}
use Rattle.cmis_spec.specs.Access.{oid_named}
use Rattle.cmis_laws.proofs.Lists.{by_test}
use Rattle.cmis_laws.proofs.Kept.{bytes_true}
use Rattle.ql_tree.specs.declared.tree.Comparison.{Comparison}
use Rattle.ql_tree.specs.declared.tree.Comparison.TheVariants as comparisons
use Rattle.ql_bind.specs.declared.bound.Condition.{Condition}
use Rattle.ql_bind.specs.declared.bound.Condition.TheOpen.{Condition-F}
use Rattle.ql_bind.specs.declared.bound.Condition.TheVariants as tests
use Rattle.ql_bind.specs.declared.bound.Condition.TheVariants.{rolls-And, rolls-Compare, rolls-InFolder}
use Rattle.ql_bind.specs.declared.bound.Condition.TheFolds.{fold-roll-Condition}
use Rattle.ql_eval.specs.declared.row.Row.{Row}
use Rattle.ql_eval.specs.declared.truth.Truth.{Truth}
use Rattle.ql_eval.specs.declared.truth.Truth.TheVariants.{Holds, Fails, Unknown}
use Rattle.ql_eval.specs.Truths.{both, holds, truth_of}
use Rattle.ql_eval.specs.Conditions.{truth, truth_step, compared, is_one_of}
use Rattle.ql_plan.specs.declared.key.Key.{Key}
use Rattle.ql_plan.specs.declared.key.Key.TheVariants as keys
use Rattle.ql_plan.specs.Candidates.{keys_of, key_step, key_of_compare, key_of_scalar}
use Rattle.ql_plan.specs.Planned.{IsKeyOf, IsKeyBy}

-- ---- equations

truth_and : (row : Row) (a b : Condition) → truth row (tests.And a b) ≡ both (truth row a) (truth row b)
truth_and row a b = ap (truth row) (sym (rolls-And a b)) ∙ fold-roll-Condition Truth (truth_step row) (Condition-F.And a b)

truth_compare : (row : Row) (id : List ℕ) (by : Comparison) (s : Scalar) → truth row (tests.Compare id by s) ≡ compared by s (value_in row.values id)
truth_compare row id by s = ap (truth row) (sym (rolls-Compare id by s)) ∙ fold-roll-Condition Truth (truth_step row) (Condition-F.Compare id by s)

truth_in_folder : (row : Row) (f : Option Oid) → truth row (tests.InFolder f) ≡ is_one_of row.folders f
truth_in_folder row f = ap (truth row) (sym (rolls-InFolder f)) ∙ fold-roll-Condition Truth (truth_step row) (Condition-F.InFolder f)

pub keys_and : (a b : Condition) → keys_of (tests.And a b) ≡ keys_of a ++ keys_of b
keys_and a b = ap keys_of (sym (rolls-And a b)) ∙ fold-roll-Condition (List Key) key_step (Condition-F.And a b)

pub keys_compare : (id : List ℕ) (by : Comparison) (s : Scalar) → keys_of (tests.Compare id by s) ≡ key_of_compare id by s
keys_compare id by s = ap keys_of (sym (rolls-Compare id by s)) ∙ fold-roll-Condition (List Key) key_step (Condition-F.Compare id by s)

pub keys_in_folder : (f : Option Oid) → keys_of (tests.InFolder f) ≡ keys.Folder f ∷ []
keys_in_folder f = ap keys_of (sym (rolls-InFolder f)) ∙ fold-roll-Condition (List Key) key_step (Condition-F.InFolder f)

-- ---- AND

both_left : (a b : Truth) → both a b ≡ Holds → a ≡ Holds
both_left Holds b e = refl
both_left Fails b e = e
both_left Unknown Holds e = e
both_left Unknown Fails e = absurd (true≢false (sym (ap holds e)))
both_left Unknown Unknown e = e

both_right : (a b : Truth) → both a b ≡ Holds → b ≡ Holds
both_right Holds b e = e
both_right Fails b e = absurd (true≢false (sym (ap holds e)))
both_right Unknown Holds e = refl
both_right Unknown Fails e = e
both_right Unknown Unknown e = e

pub and_holds : (a b : Condition) → All (IsKeyOf a) (keys_of a) → All (IsKeyOf b) (keys_of b) → All (IsKeyOf (tests.And a b)) (keys_of (tests.And a b))
and_holds a b h k = subst (All (IsKeyOf (tests.And a b))) (sym (keys_and a b))
    (All-append (IsKeyOf (tests.And a b)) (keys_of a) (keys_of b)
    (All-weaker (IsKeyOf a) (IsKeyOf (tests.And a b)) (λ key f row e. f row (both_left (truth row a) (truth row b) (sym (truth_and row a b) ∙ e))) (keys_of a) h)
    (All-weaker (IsKeyOf b) (IsKeyOf (tests.And a b)) (λ key f row e. f row (both_right (truth row a) (truth row b) (sym (truth_and row a b) ∙ e))) (keys_of b) k))

-- ---- cmis:objectId = 'k'

truth_is : (b : Bool) → truth_of b ≡ Holds → b ≡ true
truth_is true e = refl
truth_is false e = absurd (true≢false (sym (ap holds e)))

eq_is : (o : Ordering) → is_eq o ≡ true → o ≡ Equal
eq_is Less e = absurd (true≢false (sym e))
eq_is Equal e = refl
eq_is Greater e = absurd (true≢false (sym e))

equal_value : (s : Scalar) (v : Value) → compared comparisons.Equal s v ≡ Holds → v ≡ One s
equal_value s Unset e = absurd (true≢false (sym (ap holds e)))
equal_value s (One x) e = value_order-exact (One x) (One s) (eq_is (scalar_order x s) (truth_is (is_eq (scalar_order x s)) e))
equal_value s (Many xs) e = absurd (true≢false (sym (ap holds e)))

words_fit : (id text : List ℕ) → id ≡ codes "cmis:objectId" → IsKeyOf (tests.Compare id comparisons.Equal (Words text)) (keys.Object (oid_named text))
words_fit id text at row e =
    let value : value_in row.values id ≡ One (Words text) = equal_value (Words text) (value_in row.values id) (sym (truth_compare row id comparisons.Equal (Words text)) ∙ e) in
    (text, ap (value_in row.values) (sym at) ∙ value, refl)

scalar_holds : (id : List ℕ) (s : Scalar) → id ≡ codes "cmis:objectId" → All (IsKeyOf (tests.Compare id comparisons.Equal s)) (key_of_scalar s)
scalar_holds id (Words text) at = All-cons (IsKeyOf (tests.Compare id comparisons.Equal (Words text))) (keys.Object (oid_named text)) [] (words_fit id text at) (All-nil (IsKeyOf (tests.Compare id comparisons.Equal (Words text))))
scalar_holds id (Flag b) at = All-nil (IsKeyOf (tests.Compare id comparisons.Equal (Flag b)))
scalar_holds id (Whole n) at = All-nil (IsKeyOf (tests.Compare id comparisons.Equal (Whole n)))
scalar_holds id (Time n) at = All-nil (IsKeyOf (tests.Compare id comparisons.Equal (Time n)))

compare_by : (id : List ℕ) (by : Comparison) (s : Scalar) → All (IsKeyOf (tests.Compare id by s)) (key_of_compare id by s)
compare_by id comparisons.Equal s = by_test (bytes_eq id (codes "cmis:objectId"))
    (λ e. rw e (scalar_holds id s (bytes_true id (codes "cmis:objectId") e)))
    (λ e. rw e (All-nil (IsKeyOf (tests.Compare id comparisons.Equal s))))
compare_by id comparisons.NotEqual s = All-nil (IsKeyOf (tests.Compare id comparisons.NotEqual s))
compare_by id comparisons.Less s = All-nil (IsKeyOf (tests.Compare id comparisons.Less s))
compare_by id comparisons.Greater s = All-nil (IsKeyOf (tests.Compare id comparisons.Greater s))
compare_by id comparisons.LessEqual s = All-nil (IsKeyOf (tests.Compare id comparisons.LessEqual s))
compare_by id comparisons.GreaterEqual s = All-nil (IsKeyOf (tests.Compare id comparisons.GreaterEqual s))

pub compare_holds : (id : List ℕ) (by : Comparison) (s : Scalar) → All (IsKeyOf (tests.Compare id by s)) (keys_of (tests.Compare id by s))
compare_holds id by s = subst (All (IsKeyOf (tests.Compare id by s))) (sym (keys_compare id by s)) (compare_by id by s)

-- ---- IN_FOLDER

folder_fits : (f : Option Oid) → IsKeyOf (tests.InFolder f) (keys.Folder f)
folder_fits None row e = absurd (true≢false (sym (ap holds (sym (truth_in_folder row None) ∙ e))))
folder_fits (Some f) row e = truth_is (list_any (same f) row.folders) (sym (truth_in_folder row (Some f)) ∙ e)

pub in_folder_holds : (f : Option Oid) → All (IsKeyOf (tests.InFolder f)) (keys_of (tests.InFolder f))
in_folder_holds f = subst (All (IsKeyOf (tests.InFolder f))) (sym (keys_in_folder f))
    (All-cons (IsKeyOf (tests.InFolder f)) (keys.Folder f) [] (folder_fits f) (All-nil (IsKeyOf (tests.InFolder f))))

-- ---- the rest have no keys

pub none_hold : (x : Condition) → keys_of x ≡ [] → All (IsKeyOf x) (keys_of x)
none_hold x e = subst (All (IsKeyOf x)) (sym e) (All-nil (IsKeyOf x))

-- ---- the condition of a query

holds_is : (t : Truth) → holds t ≡ true → t ≡ Holds
holds_is Holds e = refl
holds_is Fails e = absurd (true≢false (sym e))
holds_is Unknown e = absurd (true≢false (sym e))

pub filter_holds : (x : Condition) (ks : List Key) → All (IsKeyOf x) ks → All (IsKeyBy (Some x)) ks
filter_holds x ks h = All-weaker (IsKeyOf x) (IsKeyBy (Some x)) (λ k f row e. f row (holds_is (truth row x) e)) ks h

-- ---- answers that may want memory

pub always : {X E : Type 0} {P : Type 0} (r : Result X E) → P → OnOk r P
always (Ok x) p = p
always (Err e) p = tt

pub weaker : {X E : Type 0} {P Q : Type 0} (r : Result X E) → (P → Q) → OnOk r P → OnOk r Q
weaker (Ok x) f p = f p
weaker (Err e) f p = tt
