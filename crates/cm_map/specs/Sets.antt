-- Sets of keys as lists.
use Rattle.std.specs.Prelude.{◌≡◌, Bool, not, List, [], ◌∷◌, ◌++◌, filter}
use Rattle.std.specs.List.{list_any}
use Rattle.core.specs.declared.cmp.Ordering.{Ordering}
use Rattle.core.specs.declared.cmp.Ordering.TheVariants.{Less}
use Rattle.core.specs.Ordering.{is_lt, is_gt, eq_by_cmp}
use Rattle.core.specs.List.{AllByRecursion}

-- the key of an entry
abbrev pub key_of : {K X : Type 0} → K × X → K
key_of e = e.0

module _ {K : Type 0} (R : K → K → Ordering) where
  -- each key is below all that follow it; so none stands twice
  abbrev pub IsRising : List K → Type 0
  IsRising [] = Unit {0}
  IsRising (k ∷ ks) = AllByRecursion (λ x. R k x ≡ Less) ks × IsRising ks

  abbrev pub has_key : K → List K → Bool
  has_key k ks = list_any (eq_by_cmp R k) ks

  -- the keys below k, k once, and the keys above it
  abbrev pub with_key : List K → K → List K
  with_key ks k = filter (λ x. is_lt (R x k)) ks ++ k ∷ filter (λ x. is_gt (R x k)) ks

  abbrev pub all_but_key : K → List K → List K
  all_but_key k ks = filter (λ x. not (eq_by_cmp R k x)) ks
