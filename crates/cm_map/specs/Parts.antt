-- Parts of a list of entries.
use Rattle.std.specs.Prelude.{◌≡◌, ◌<◌, ◌++◌, length, false, IfSome, Bool, not, ◌&&◌, List, [], ◌∷◌, Option, None, Some}
use Rattle.core.specs.declared.cmp.Ordering.{Ordering}
use Rattle.core.specs.declared.cmp.Ordering.TheVariants.{Greater}
use Rattle.core.specs.Ordering.{eq_by_cmp, is_lt, is_gt}
use denote.Ref.{Bor}
use Rattle.core.specs.FinMap.Entries.{where_key}

-- P holds of the first, where there is one
abbrev pub HeadIs : {X : Type 0} → (X → Type 0) → List X → Type 0
HeadIs P [] = Unit {0}
HeadIs P (x ∷ xs) = P x

-- the first key
abbrev pub first_of : {K X : Type 0} → List (K × X) → Option K
first_of [] = None
first_of (e ∷ es) = Some e.0

-- the entries without the key
abbrev pub without_key : {K X : Type 0} → (K → K → Ordering) → K → List (K × X) → List (K × X)
without_key R k es = where_key R (λ x. not (eq_by_cmp R k x)) es

-- what a reference shows
abbrev pub pointee : {X : Type 0} → Bor X → X
pointee r = r.now

-- whether a key lies in a range that has both its ends
abbrev pub within : {K : Type 0} → (K → K → Ordering) → K → K → K → Bool
within R least most k = not (is_lt (R k least)) && not (is_gt (R k most))

-- the members between two others in a row: each key before them is below `least` or at it, and each key past them above `most`
pub record IsBetween {B K : Type 0} (first : B → Option K) (R : K → K → Ordering) (least most : K) (bs mid : List B) : Type 0 where
  pub before : List B
  pub past : List B
  pub parts : bs ≡ before ++ (mid ++ past)
  pub some : 0 < length mid
  pub low : 0 < length before → HeadIs (λ b. IfSome (first b) (λ x. is_gt (R x least) ≡ false)) (mid ++ past)
  pub high : HeadIs (λ b. IfSome (first b) (λ x. R x most ≡ Greater)) past
