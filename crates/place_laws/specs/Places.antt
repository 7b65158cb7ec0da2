-- Entries by their places, and what an index tells of them.
use Rattle.std.specs.Prelude.{◌≡◌, ℕ, Bool, List, Option, None, Some, map, filter, option_and_then, if◌then◌else◌}
use Rattle.core.specs.Ordering.{nat_cmp, eq_by_cmp}
use Rattle.core.specs.declared.cmp.Ordering.{Ordering}
use Rattle.cm_map.specs.Buckets.{find_in}

-- the values of the entries that have the key, by their places
abbrev pub placed : {K E X : Type 0} → (K → K → Ordering) → (E → K) → (E → X) → K → List (ℕ × E) → List (ℕ × X)
placed R key value q entries = map (λ e. (e.0, value e.1)) (filter (λ e. eq_by_cmp R q (key e.1)) entries)

-- the value of an entry, where it has the key
abbrev pub value_at : {K E X : Type 0} → (K → K → Ordering) → (E → K) → (E → X) → K → Option E → Option X
value_at R key value q entry = option_and_then (λ e. if eq_by_cmp R q (key e) then Some (value e) else None) entry

-- under each key an index by numbers has the values of the entries that have the key, by their places
abbrev pub Tells : {E X : Type 0} → (E → ℕ) → (E → X) → (ℕ → Option E) → List (ℕ × List (ℕ × X)) → Type 0
Tells key value entry_at index = (k p : ℕ) → find_in nat_cmp nat_cmp index k p ≡ value_at nat_cmp key value k (entry_at p)

-- an entry, but none where it passes the test
abbrev pub but : {E : Type 0} → (E → Bool) → E → Option E
but test e = if test e then None else Some e
