-- Clashes among definitions, one by one.
use Rattle.std.proofs.Common.{◌≡◌, ◌∙◌, ℕ, ◌+◌, ◌<◌, Bool, true, false, cond, ◌||◌, List, [], ◌∷◌, ◌++◌, length, take, get_or, refl, sym, ap}
use Rattle.std.specs.Prelude.{Option, Some, is_some, bytes_eq}
use Rattle.std.specs.List.{list_any}
use Rattle.core.specs.Ordering.{nat_cmp, eq_by_cmp}
use Rattle.core.specs.Cmp.Lexicographic.{slice_cmp, nat_list_cmp_total}
use Rattle.core.specs.FinMap.Entries.{put, find-put}
use Rattle.core.specs.FinMap.Entries as entries
use Rattle.std.proofs.lemmas.Map.Text.{is_eq-slice_cmp}
use Rattle.std.proofs.lemmas.Cmp.{nat_list_eq_equiv}
use Rattle.std.proofs.lemmas.List.{take_more}
use Rattle.cm_types.specs.declared.property.PropDef.{PropDef}
use Rattle.cm_types.specs.Changes.{clashes, has_clash}

some_cond : {A : Type 0} (b : Bool) (x : A) (o : Option A) → is_some (cond b (Some x) o) ≡ (b || is_some o)
some_cond true x o = refl
some_cond false x o = refl

-- a set with one more name
pub has_put : {A : Type 0} (q k : List ℕ) (v : A) (es : List (List ℕ × A))
    → is_some (entries.find (slice_cmp nat_cmp) q (put (slice_cmp nat_cmp) k v es)) ≡ (bytes_eq k q || is_some (entries.find (slice_cmp nat_cmp) q es))
has_put q k v es =
    ap is_some (find-put (slice_cmp nat_cmp) nat_list_cmp_total q k v es)
    ∙ some_cond (eq_by_cmp (slice_cmp nat_cmp) q k) v (entries.find (slice_cmp nat_cmp) q es)
    ∙ ap (λ b. b || is_some (entries.find (slice_cmp nat_cmp) q es)) (is_eq-slice_cmp q k ∙ nat_list_eq_equiv.symm q k)

or_assoc : (a b c : Bool) → ((a || b) || c) ≡ (a || (b || c))
or_assoc true b c = refl
or_assoc false b c = refl

or_false : (a : Bool) → (a || false) ≡ a
or_false true = refl
or_false false = refl

or_turned : (a b : Bool) → (a || b) ≡ (b || a)
or_turned true true = refl
or_turned true false = refl
or_turned false true = refl
or_turned false false = refl

swapped : (a b c d : Bool) → ((a || b) || (c || d)) ≡ ((a || c) || (b || d))
swapped true b c d = refl
swapped false true c d = sym (or_turned c true)
swapped false false c d = refl

any_more : {A : Type 0} (p : A → Bool) (xs : List A) (x : A) → list_any p (xs ++ x ∷ []) ≡ (list_any p xs || p x)
any_more p [] x = or_false (p x)
any_more p (y ∷ xs) x = ap (λ b. p y || b) (any_more p xs x) ∙ sym (or_assoc (p y) (list_any p xs) (p x))

-- a test of two parts, and one that is turned round
any_parts : {A : Type 0} (p q : A → Bool) (xs : List A) → list_any (λ x. p x || q x) xs ≡ (list_any p xs || list_any q xs)
any_parts p q [] = refl
any_parts p q (x ∷ xs) = ap (λ b. (p x || q x) || b) (any_parts p q xs) ∙ swapped (p x) (q x) (list_any p xs) (list_any q xs)

clash_more : (ds : List PropDef) (x : PropDef) → has_clash (ds ++ x ∷ []) ≡ (has_clash ds || list_any (λ d. clashes d x) ds)
clash_more [] x = refl
clash_more (d ∷ ds) x =
    ap (λ b. b || has_clash (ds ++ x ∷ [])) (any_more (clashes d) ds x)
    ∙ ap (λ b. (list_any (clashes d) ds || clashes d x) || b) (clash_more ds x)
    ∙ swapped (list_any (clashes d) ds) (clashes d x) (has_clash ds) (list_any (λ e. clashes e x) ds)

-- the step of a loop: what clashes among the first i + 1
pub clash_step : (defs : List PropDef) (i : ℕ) (x : PropDef) → i < length defs
    → (has_clash (take i defs) || (list_any (λ d. bytes_eq d.id (get_or defs i x).id) (take i defs) || list_any (λ d. bytes_eq d.query_name (get_or defs i x).query_name) (take i defs)))
    ≡ has_clash (take (i + 1) defs)
clash_step defs i x lt =
    let y = get_or defs i x in
    ap (λ b. has_clash (take i defs) || b) (sym (any_parts (λ d. bytes_eq d.id y.id) (λ d. bytes_eq d.query_name y.query_name) (take i defs)))
    ∙ sym (clash_more (take i defs) y)
    ∙ ap has_clash (sym (take_more defs i x lt))

-- the names of the first i + 1
pub name_step : (name : PropDef → List ℕ) (q : List ℕ) (defs : List PropDef) (i : ℕ) (x : PropDef) → i < length defs
    → (bytes_eq (name (get_or defs i x)) q || list_any (λ d. bytes_eq (name d) q) (take i defs)) ≡ list_any (λ d. bytes_eq (name d) q) (take (i + 1) defs)
name_step name q defs i x lt =
    let y = get_or defs i x in
    or_turned (bytes_eq (name y) q) (list_any (λ d. bytes_eq (name d) q) (take i defs))
    ∙ sym (any_more (λ d. bytes_eq (name d) q) (take i defs) y)
    ∙ ap (list_any (λ d. bytes_eq (name d) q)) (sym (take_more defs i x lt))
