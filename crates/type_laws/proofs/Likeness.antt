-- Lists of types that are alike: each type of some ids is found in both, changed alike, and so are its ancestors.
use Rattle.std.specs.Prelude.{◌≡◌, ℕ, zero, suc, ◌-◌, Bool, true, false, not, List, [], ◌∷◌, ◌++◌, length, map, filter, reverse, All, Option, Some, None, is_some, option_map, unwrap_or, slice_get, bytes_eq, codes}
use Rattle.std.specs.List.{list_any, flat_map}
use mathlib.Core.List.{reverse_aux}
use Rattle.std.proofs.Common.{refl, sym, ap, ◌∙◌, arith}
use Rattle.std.proofs.lemmas.Bool.{both_ways}
use Rattle.std.proofs.lemmas.List.{map-append}
use Rattle.std.proofs.lemmas.List.Elements.{All-nil, All-head, All-tail, All-cons}
use Rattle.cm_base.specs.declared.object.Object.{Object}
use Rattle.cm_types.specs.declared.definition.BaseType.{BaseType}
use Rattle.cm_types.specs.declared.definition.TypeDef.{TypeDef}
use Rattle.cm_types.specs.Types.{type_in, chain_of, chain, longest_chain, is_below, is_of_base, same_base, first_of_each, types_of, props_of}
use Rattle.cmis_spec.specs.Repository.{last_of}
use Rattle.cmis_spec.specs.Well.{ends_at_base, IsTyped}
use Rattle.cmis_laws.proofs.Lists.{any_mapped}
use Rattle.cmis_laws.proofs.Left.{filter_map_swap}

-- ---- lists

onto_mapped : {A B : Type 0} (f : A → B) (xs ys : List A) → reverse_aux (map f xs) (map f ys) ≡ map f (reverse_aux xs ys)
onto_mapped f [] ys = refl
onto_mapped f (x ∷ xs) ys = onto_mapped f xs (x ∷ ys)

reverse_mapped : {A B : Type 0} (f : A → B) (xs : List A) → reverse (map f xs) ≡ map f (reverse xs)
reverse_mapped f xs = onto_mapped f xs []

flat_mapped : {A B C : Type 0} (g : B → List C) (f : A → B) (xs : List A) → flat_map g (map f xs) ≡ flat_map (λ x. g (f x)) xs
flat_mapped g f [] = refl
flat_mapped g f (x ∷ xs) = ap (λ l. g (f x) ++ l) (flat_mapped g f xs)

filter_alike : {A : Type 0} (p q : A → Bool) (xs : List A) → ((x : A) → p x ≡ q x) → filter p xs ≡ filter q xs
filter_alike p q [] h = refl
filter_alike p q (x ∷ xs) h = rw (h x, filter_alike p q xs h) refl

last_behind : {A : Type 0} (t s : A) (ts : List A) → last_of (t ∷ s ∷ ts) ≡ last_of (s ∷ ts)
last_behind t s ts =
    let long : suc (suc (length ts)) - 1 ≡ suc (length ts) = omega arith in
    let short : suc (length ts) - 1 ≡ length ts = omega arith in
    ap (slice_get (t ∷ s ∷ ts)) long ∙ sym (ap (slice_get (s ∷ ts)) short)

last_mapped : {A B : Type 0} (f : A → B) (xs : List A) → last_of (map f xs) ≡ option_map f (last_of xs)
last_mapped f [] = refl
last_mapped f (x ∷ []) = refl
last_mapped f (x ∷ y ∷ ys) = last_behind (f x) (f y) (map f ys) ∙ (last_mapped f (y ∷ ys) ∙ sym (ap (option_map f) (last_behind x y ys)))

pub last_after : {A : Type 0} (t : A) (ts : List A) → list_any (λ s. true) ts ≡ true → last_of (t ∷ ts) ≡ last_of ts
last_after t [] h = absurd (both_ways false refl h)
last_after t (s ∷ ts) h = last_behind t s ts

-- ---- lists of types

-- each type of a good id is found in the other list too, changed; its parent is good, and neither its id, its base nor its parent change
pub record IsLike (types others : List TypeDef) (f : TypeDef → TypeDef) (Good : List ℕ → Type 0) : Type 0 where
  pub found : (k : List ℕ) → Good k → type_in others k ≡ option_map f (type_in types k)
  pub above : (k : List ℕ) (s : TypeDef) (p : List ℕ) → Good k → type_in types k ≡ Some s → s.parent ≡ Some p → Good p
  pub parent_same : (k : List ℕ) (s : TypeDef) → Good k → type_in types k ≡ Some s → (f s).parent ≡ s.parent
  pub base_same : (k : List ℕ) (s : TypeDef) → Good k → type_in types k ≡ Some s → (f s).base ≡ s.base
  pub versionable_same : (k : List ℕ) (s : TypeDef) → Good k → type_in types k ≡ Some s → (f s).versionable ≡ s.versionable
  pub id_same : (s : TypeDef) → (f s).id ≡ s.id

module _ (types others : List TypeDef) (f : TypeDef → TypeDef) (Good : List ℕ → Type 0) (l : IsLike types others f Good) where
  -- a look-up in the other list, by what the list tells
  pub looked : {B : Type 0} (g h : TypeDef → B) (d : B) (k : List ℕ) → Good k → ((s : TypeDef) → type_in types k ≡ Some s → g (f s) ≡ h s)
      → unwrap_or (option_map g (type_in others k)) d ≡ unwrap_or (option_map h (type_in types k)) d
  looked g h d k good same = ap (λ o. unwrap_or (option_map g o) d) (l.found k good) ∙ by (type_in types k) refl
    where
      by : (o : Option TypeDef) → type_in types k ≡ o → unwrap_or (option_map g (option_map f o)) d ≡ unwrap_or (option_map h o) d
      by None e = refl
      by (Some s) e = same s e

  pub there_like : (k : List ℕ) → Good k → is_some (type_in others k) ≡ is_some (type_in types k)
  there_like k good = ap is_some (l.found k good) ∙ by (type_in types k)
    where
      by : (o : Option TypeDef) → is_some (option_map f o) ≡ is_some o
      by None = refl
      by (Some s) = refl

  pub base_like : (b : BaseType) (k : List ℕ) → Good k → is_of_base others b k ≡ is_of_base types b k
  base_like b k good = ap (λ o. unwrap_or (option_map (same_base b) (option_map (λ t. t.base) o)) false) (l.found k good) ∙ by (type_in types k) refl
    where
      by : (o : Option TypeDef) → type_in types k ≡ o
          → unwrap_or (option_map (same_base b) (option_map (λ t. t.base) (option_map f o))) false ≡ unwrap_or (option_map (same_base b) (option_map (λ t. t.base) o)) false
      by None e = refl
      by (Some s) e = ap (same_base b) (l.base_same k s good e)

  pub versionable_like : (k : List ℕ) → Good k → unwrap_or (option_map (λ t. t.versionable) (type_in others k)) false ≡ unwrap_or (option_map (λ t. t.versionable) (type_in types k)) false
  versionable_like k good = looked (λ t. t.versionable) (λ t. t.versionable) false k good (λ s. l.versionable_same k s good)

  -- ---- chains

  above_like : (n : ℕ) (o : Option (List ℕ)) → ((p : List ℕ) → o ≡ Some p → chain_of n others p ≡ map f (chain_of n types p))
      → unwrap_or (option_map (chain_of n others) o) [] ≡ map f (unwrap_or (option_map (chain_of n types) o) [])
  above_like n None h = refl
  above_like n (Some p) h = h p refl

  pub chain_like : (n : ℕ) (k : List ℕ) → Good k → chain_of n others k ≡ map f (chain_of n types k)
  chain_like zero k good = refl
  chain_like (suc n) k good = elim (type_in types k) as (λ o. type_in types k ≡ o → unwrap_or (option_map (λ t. t ∷ unwrap_or (option_map (chain_of n others) t.parent) []) (type_in others k)) []
      ≡ map f (unwrap_or (option_map (λ t. t ∷ unwrap_or (option_map (chain_of n types) t.parent) []) o) [])) [
        | None ↦ λ e. ap (λ o. unwrap_or (option_map (λ t. t ∷ unwrap_or (option_map (chain_of n others) t.parent) []) o) []) (l.found k good ∙ ap (option_map f) e)
        | Some s ↦ λ e. ap (λ o. unwrap_or (option_map (λ t. t ∷ unwrap_or (option_map (chain_of n others) t.parent) []) o) []) (l.found k good ∙ ap (option_map f) e)
            ∙ (ap (λ o. f s ∷ unwrap_or (option_map (chain_of n others) o) []) (l.parent_same k s good e)
            ∙ ap (λ c. f s ∷ c) (above_like n s.parent (λ p h. chain_like n p (l.above k s p good e h))))
      ] refl

  ends_above : (n : ℕ) (o : Option (List ℕ)) → ((p : List ℕ) → o ≡ Some p → ends_at_base n others p ≡ ends_at_base n types p)
      → unwrap_or (option_map (ends_at_base n others) o) true ≡ unwrap_or (option_map (ends_at_base n types) o) true
  ends_above n None h = refl
  ends_above n (Some p) h = h p refl

  pub ends_like : (n : ℕ) (k : List ℕ) → Good k → ends_at_base n others k ≡ ends_at_base n types k
  ends_like zero k good = refl
  ends_like (suc n) k good = looked (λ t. unwrap_or (option_map (ends_at_base n others) t.parent) true) (λ t. unwrap_or (option_map (ends_at_base n types) t.parent) true) false k good
      (λ s e. ap (λ o. unwrap_or (option_map (ends_at_base n others) o) true) (l.parent_same k s good e)
      ∙ ends_above n s.parent (λ p h. ends_like n p (l.above k s p good e h)))

  pub below_like : (k above : List ℕ) → Good k → is_below others k above ≡ is_below types k above
  below_like k above good = ap (list_any (λ t. bytes_eq t.id above)) (chain_like longest_chain k good)
      ∙ any_mapped (λ t. bytes_eq t.id above) f (chain types k) (λ t. ap (λ i. bytes_eq i above) (l.id_same t))

  pub top_like : (k : List ℕ) → Good k → option_map (λ t. t.id) (last_of (chain others k)) ≡ option_map (λ t. t.id) (last_of (chain types k))
  top_like k good = ap (λ c. option_map (λ t. t.id) (last_of c)) (chain_like longest_chain k good) ∙ (ap (option_map (λ t. t.id)) (last_mapped f (chain types k)) ∙ by (last_of (chain types k)))
    where
      by : (o : Option TypeDef) → option_map (λ t. t.id) (option_map f o) ≡ option_map (λ t. t.id) o
      by None = refl
      by (Some t) = ap Some (l.id_same t)

  -- ---- what an object has

  lines_like : (ks : List (List ℕ)) → All Good ks → flat_map (λ k. reverse (chain others k)) ks ≡ map f (flat_map (λ k. reverse (chain types k)) ks)
  lines_like [] all = refl
  lines_like (k ∷ ks) all =
      ap (λ c. reverse c ++ flat_map (λ k. reverse (chain others k)) ks) (chain_like longest_chain k (All-head Good k ks all))
      ∙ (ap (λ c. c ++ flat_map (λ k. reverse (chain others k)) ks) (reverse_mapped f (chain types k))
      ∙ (ap (λ c. map f (reverse (chain types k)) ++ c) (lines_like ks (All-tail Good k ks all))
      ∙ sym (map-append f (reverse (chain types k)) (flat_map (λ k. reverse (chain types k)) ks))))

  first_like : (ts : List TypeDef) → first_of_each (map f ts) ≡ map f (first_of_each ts)
  first_like [] = refl
  first_like (t ∷ ts) = ap (λ c. f t ∷ c)
      (ap (filter (λ s. not (bytes_eq s.id (f t).id))) (first_like ts)
      ∙ (sym (filter_map_swap f (λ s. not (bytes_eq s.id (f t).id)) (first_of_each ts))
      ∙ ap (map f) (filter_alike (λ s. not (bytes_eq (f s).id (f t).id)) (λ s. not (bytes_eq s.id t.id)) (first_of_each ts)
      (λ s. ap (λ i. not (bytes_eq i (f t).id)) (l.id_same s) ∙ ap (λ i. not (bytes_eq s.id i)) (l.id_same t)))))

  pub props_like : (kind : List ℕ) (secondary : List (List ℕ)) → Good kind → All Good secondary
      → props_of others kind secondary ≡ flat_map (λ t. (f t).properties) (types_of types kind secondary)
  props_like kind secondary good all =
      ap (λ ts. flat_map (λ t. t.properties) (first_of_each ts)) (lines_like (kind ∷ secondary) (All-cons Good kind secondary good all))
      ∙ (ap (flat_map (λ t. t.properties)) (first_like (flat_map (λ k. reverse (chain types k)) (kind ∷ secondary)))
      ∙ flat_mapped (λ t. t.properties) f (types_of types kind secondary))

  pub typed_like : (x : Object) → Good x.kind → All Good x.secondary → IsTyped types x → IsTyped others x
  typed_like x good all t = (
    there_like x.kind good ∙ t.0,
    both x.secondary all t.1,
  )
    where
      both : (ks : List (List ℕ)) → All Good ks → All (λ s. is_below types s (codes "cmis:secondary") ≡ true) ks → All (λ s. is_below others s (codes "cmis:secondary") ≡ true) ks
      both [] gs all = All-nil (λ s. is_below others s (codes "cmis:secondary") ≡ true)
      both (k ∷ ks) gs all = All-cons (λ s. is_below others s (codes "cmis:secondary") ≡ true) k ks
          (below_like k (codes "cmis:secondary") (All-head Good k ks gs) ∙ All-head (λ s. is_below types s (codes "cmis:secondary") ≡ true) k ks all)
          (both ks (All-tail Good k ks gs) (All-tail (λ s. is_below types s (codes "cmis:secondary") ≡ true) k ks all))
