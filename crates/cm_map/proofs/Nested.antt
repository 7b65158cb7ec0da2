-- A map under a key with one more entry, or with one less.
use Rattle.std.proofs.Common.{◌≡◌, ◌&&◌, List, [], ◌∷◌, Option, Some, None, Bool, true, false, cond, unwrap_or, option_and_then, not, length, refl, ap, sym, ◌∙◌, if◌then◌else◌, arith}
use Rattle.core.specs.Ordering.{eq_by_cmp, is_eq}
use Rattle.core.specs.Cmp.{IsTotalOrder, alike_right, eq_by_cmp_equiv, Equal-is}
use Rattle.core.specs.declared.cmp.Ordering.{Ordering}
use Rattle.core.specs.FinMap.Entries.{put, find, find-put, find-where_key, find_tied}
use Rattle.cm_map.specs.Parts.{without_key}
use Rattle.cm_map.specs.Buckets.{find_in, bucket_of, with_bucket}
use Rattle.cm_map.proofs.Tables.{by_test}

-- in a list, the entry of a key without those of another
find-kept : {K V : Type 0} (R : K → K → Ordering) → IsTotalOrder R → (key k : K) (es : List (K × V)) → find R k (without_key R key es) ≡ (if eq_by_cmp R k key then None else find R k es)
find-kept R total key k es = find-where_key R (λ x. not (eq_by_cmp R key x)) k (λ x t. ap (λ r. not (is_eq r)) (sym (alike_right total k x key t))) es
    ∙ (turned (eq_by_cmp R key k) (find R k es) ∙ ap (λ b. if b then None else find R k es) ((eq_by_cmp_equiv total).symm key k))
  where
    turned : {X : Type 0} (b : Bool) (o : Option X) → cond (not b) o None ≡ (if b then None else o)
    turned true o = refl
    turned false o = refl

module _ {K J V : Type 0} (R : K → K → Ordering) (S : J → J → Ordering) (outer_total : IsTotalOrder R) (inner_total : IsTotalOrder S) where
  -- a key that ties finds in the map what is found by both keys
  find-bucket : (b : List (K × List (J × V))) (m n : K) (k : J) → eq_by_cmp R n m ≡ true → find S k (bucket_of R b m) ≡ find_in R S b n k
  find-bucket b m n k e = ap (λ o. find S k (unwrap_or o [])) (find_tied R outer_total n m ((Equal-is (R n m)).0 e) b) ∙ within (find R n b)
    where
      within : (o : Option (List (J × V))) → find S k (unwrap_or o []) ≡ option_and_then (find S k) o
      within None = refl
      within (Some es) = refl

  pub find-with : (b : List (K × List (J × V))) (m : K) (key : J) (v : V) (n : K) (k : J)
      → find_in R S (put R m (put S key v (bucket_of R b m)) b) n k ≡ (if eq_by_cmp R n m && eq_by_cmp S k key then Some v else find_in R S b n k)
  find-with b m key v n k =
      ap (option_and_then (find S k)) (find-put R outer_total n m (put S key v (bucket_of R b m)) b)
      ∙ by_test (eq_by_cmp R n m)
      (λ e. rw e (find-put S inner_total k key v (bucket_of R b m) ∙ ap (cond (eq_by_cmp S k key) (Some v)) (find-bucket b m n k e)))
      (λ e. rw e refl)

  -- ---- one entry less

  find-placed : (m : K) (es : List (J × V)) (b : List (K × List (J × V))) (n : K) (k : J) → find_in R S (with_bucket R m es b) n k ≡ (if eq_by_cmp R n m then find S k es else find_in R S b n k)
  find-placed m [] b n k = ap (option_and_then (find S k)) (find-kept R outer_total m n b) ∙ by_test (eq_by_cmp R n m) (λ e. rw e refl) (λ e. rw e refl)
  find-placed m (e ∷ es) b n k = ap (option_and_then (find S k)) (find-put R outer_total n m (e ∷ es) b) ∙ by_test (eq_by_cmp R n m) (λ t. rw t refl) (λ t. rw t refl)

  pub find-without : (b : List (K × List (J × V))) (m : K) (key : J) (n : K) (k : J)
      → find_in R S (with_bucket R m (without_key S key (bucket_of R b m)) b) n k ≡ (if eq_by_cmp R n m && eq_by_cmp S k key then None else find_in R S b n k)
  find-without b m key n k = find-placed m (without_key S key (bucket_of R b m)) b n k ∙ by_test (eq_by_cmp R n m)
      (λ e. rw e (find-kept S inner_total key k (bucket_of R b m) ∙ ap (λ o. if eq_by_cmp S k key then None else o) (find-bucket b m n k e)))
      (λ e. rw e refl)

-- ---- an empty map, and one that is not

pub empty-placed : {K J V : Type 0} (R : K → K → Ordering) (n : K) (es : List (J × V)) (b : List (K × List (J × V))) → length es ≡ 0 → without_key R n b ≡ with_bucket R n es b
empty-placed R n [] b h = refl
empty-placed R n (e ∷ es) b h = absurd (omega (arith, h))

pub some-placed : {K J V : Type 0} (R : K → K → Ordering) (n : K) (es : List (J × V)) (b : List (K × List (J × V))) → (length es ≡ 0 → ⊥) → put R n es b ≡ with_bucket R n es b
some-placed R n [] b h = absurd (h refl)
some-placed R n (e ∷ es) b h = refl
