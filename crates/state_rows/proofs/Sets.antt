-- Numbers gathered in a set.
use Rattle.std.specs.Prelude.{◌≡◌, ℕ, ◌+◌, ◌<◌, ◌==◌, ◌||◌, List, take, length, is_some}
use Rattle.std.specs.List.{list_any}
use Rattle.std.proofs.Common.{sym, ap, ◌∙◌, get_or}
use Rattle.std.proofs.lemmas.List.{take_more}
use Rattle.core.specs.Ordering.{nat_cmp}
use Rattle.core.specs.FinMap.Entries.{find, put}
use Rattle.cm_base.specs.declared.number.Oid.{Oid}
use Rattle.cm_state.proofs.Numbers.{any_last, flip, more_numbers}

-- one number more
pub set_more : (numbers : List Oid) (i : ℕ) (d : Oid) (all : List (ℕ × Unit {0})) → i < length numbers → ((n : ℕ) → is_some (find nat_cmp n all) ≡ list_any (λ k. n == k.0) (take i numbers))
    → (n : ℕ) → is_some (find nat_cmp n (put nat_cmp (get_or numbers i d).0 tt all)) ≡ list_any (λ k. n == k.0) (take (i + 1) numbers)
set_more numbers i d all l known n =
    let k : Oid = get_or numbers i d in
    more_numbers n k.0 all
    ∙ ((λ j. flip n k.0 j || known n j)
    ∙ (sym (any_last (λ (m : Oid). n == m.0) (take i numbers) k) ∙ ap (list_any (λ m. n == m.0)) (sym (take_more numbers i d l))))
