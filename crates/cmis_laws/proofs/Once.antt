-- The definitions of an object's properties differ in their ids, and so its values do.
use Rattle.std.specs.Prelude.{◌≡◌, ℕ, zero, suc, ◌-◌, Bool, true, false, not, ◌&&◌, ◌||◌, ◌⊎◌, List, [], ◌∷◌, length, slice_get, is_none, reverse, All, Option, Some, None, option_map, unwrap_or, bytes_eq, codes}
use Rattle.std.specs.List.{list_any, flat_map}
use Rattle.core.specs.declared.cmp.Ordering.TheVariants.{Less}
use Rattle.core.specs.Ordering.{nat_cmp, is_eq}
use Rattle.core.specs.Cmp.Lexicographic.{slice_cmp}
use Rattle.std.proofs.Common.{refl, sym, ap, subst, ◌∙◌, arith, inl, inr}
use Rattle.std.proofs.lemmas.Bool.{both_ways}
use Rattle.std.proofs.lemmas.List.Elements.{All-nil, All-cons, All-head, All-tail, All-weaker}
use Rattle.std.proofs.lemmas.Map.Text.{is_eq-slice_cmp}
use Rattle.cm_base.specs.declared.object.Object.{Object}
use Rattle.cm_base.specs.declared.value.Slot.{Slot}
use Rattle.cm_types.specs.declared.definition.TypeDef.{TypeDef}
use Rattle.cm_types.specs.declared.definition.BaseType.TheVariants as bases
use Rattle.cm_types.specs.declared.property.PropDef.{PropDef}
use Rattle.cm_types.specs.declared.given.Given.{Given}
use Rattle.cm_types.specs.declared.given.PropertyCall.{PropertyCall}
use Rattle.cm_types.specs.declared.given.PropertyCall.TheVariants as calls
use Rattle.cm_types.specs.Types.{type_in, chain_of, chain, longest_chain, first_of_each, is_below, types_of, props_of}
use Rattle.cm_types.specs.Properties.{is_set, kept_value, kept_values}
use Rattle.cm_types.specs.BaseTypes.{base_types, base_row}
use Rattle.cmis_spec.specs.Repository.{last_of}
use Rattle.cmis_spec.specs.Values.{is_apart, kept_beside}
use Rattle.cmis_spec.specs.Well.{Apart, IsTyped, IsOwn, OwnsValues, HasTypes, HasBases, define_one, define_apart}
use Rattle.cmis_laws.proofs.Lists.{by_test, some_eq, find_yes, found_holds, all_from_any, all_zip, apart_weaker, apart_map, bytes_turned}
use Rattle.cmis_laws.proofs.Left.{not_true, all_kept, apart_filter, apart_append}
use Rattle.cmis_laws.proofs.Passed.{or_left, or_right}
use Rattle.cmis_laws.proofs.Kept.{bytes_true, bytes_same, chain_all, reverse_all, flat_all, first_all, types_all, owns_kept}

-- ---- lists

abbrev Differ : {A : Type 0} → (A → List ℕ) → A → A → Type 0
Differ id x y = bytes_eq (id x) (id y) ≡ false

-- what stands so to each stands so to each after it
apart_each : {A : Type 0} (R : A → A → Type 0) (xs : List A) → All (λ x. All (R x) xs) xs → Apart R xs
apart_each R [] all = tt
apart_each R (x ∷ xs) all = (
  All-tail (R x) x xs (All-head (λ y. All (R y) (x ∷ xs)) x xs all),
  apart_each R xs (All-weaker (λ y. All (R y) (x ∷ xs)) (λ y. All (R y) xs) (λ y h. All-tail (R y) x xs h) xs (All-tail (λ y. All (R y) (x ∷ xs)) x xs all)),
)

apart_both : {A : Type 0} (R S : A → A → Type 0) (xs : List A) → Apart R xs → Apart S xs → Apart (λ x y. R x y × S x y) xs
apart_both R S [] a b = tt
apart_both R S (x ∷ xs) a b = (all_zip (R x) (S x) (λ y. R x y × S x y) xs (λ y r s. (r, s)) a.0 b.0, apart_both R S xs a.1 b.1)

-- what holds of one that passes
any_holds : {A G : Type 0} (P : A → Type 0) (p : A → Bool) (xs : List A) → All P xs → list_any p xs ≡ true → ((x : A) → P x → p x ≡ true → G) → G
any_holds P p [] all h f = absurd (both_ways false refl h)
any_holds P p (x ∷ xs) all h f = by_test (p x) (λ e. f x (All-head P x xs all) e) (λ e. any_holds P p xs (All-tail P x xs all) (rw e at h) f)

-- in byte order they differ
less_differ : (xs ys : List ℕ) → slice_cmp nat_cmp xs ys ≡ Less → bytes_eq xs ys ≡ false
less_differ xs ys h = sym (is_eq-slice_cmp xs ys) ∙ ap is_eq h

-- ---- the first of each

firsts_differ : (ts : List TypeDef) → Apart (Differ (λ t. t.id)) (first_of_each ts)
firsts_differ [] = tt
firsts_differ (t ∷ ts) = (
  all_kept (λ s. not (bytes_eq s.id t.id)) (Differ (λ t. t.id) t) (first_of_each ts) (every (first_of_each ts)),
  apart_filter (Differ (λ t. t.id)) (λ s. not (bytes_eq s.id t.id)) (first_of_each ts) (firsts_differ ts),
)
  where
    every : (ss : List TypeDef) → All (λ s. not (bytes_eq s.id t.id) ≡ true → bytes_eq t.id s.id ≡ false) ss
    every [] = All-nil (λ s. not (bytes_eq s.id t.id) ≡ true → bytes_eq t.id s.id ≡ false)
    every (s ∷ ss) = All-cons (λ s. not (bytes_eq s.id t.id) ≡ true → bytes_eq t.id s.id ≡ false) s ss (λ h. bytes_turned s.id t.id (not_true (bytes_eq s.id t.id) h)) (every ss)

-- ---- the top of a chain

last_behind : (t s : TypeDef) (ts : List TypeDef) → last_of (t ∷ s ∷ ts) ≡ last_of (s ∷ ts)
last_behind t s ts =
    let long : suc (suc (length ts)) - 1 ≡ suc (length ts) = omega arith in
    let short : suc (length ts) - 1 ≡ length ts = omega arith in
    ap (slice_get (t ∷ s ∷ ts)) long ∙ sym (ap (slice_get (s ∷ ts)) short)

last_later : (t : TypeDef) (ts : List TypeDef) → All (λ z. is_none z.parent ≡ true → last_of ts ≡ Some z) ts → All (λ z. is_none z.parent ≡ true → last_of (t ∷ ts) ≡ Some z) ts
last_later t [] all = All-nil (λ z. is_none z.parent ≡ true → last_of (t ∷ []) ≡ Some z)
last_later t (s ∷ ts) all = All-weaker (λ z. is_none z.parent ≡ true → last_of (s ∷ ts) ≡ Some z) (λ z. is_none z.parent ≡ true → last_of (t ∷ s ∷ ts) ≡ Some z) (λ z f h. last_behind t s ts ∙ f h) (s ∷ ts) all

abbrev Ends : List TypeDef → Type 0
Ends ts = All (λ z. is_none z.parent ≡ true → last_of ts ≡ Some z) ts

-- a type without a parent is the last of its chain
tops_last : (types : List TypeDef) (n : ℕ) (id : List ℕ) → Ends (chain_of n types id)
tops_last types zero id = All-nil (λ z. is_none z.parent ≡ true → last_of [] ≡ Some z)
tops_last types (suc n) id = by (tops_last types n) (type_in types id)
  where
    above : ((p : List ℕ) → Ends (chain_of n types p)) → (t : TypeDef) (o : Option (List ℕ)) → t.parent ≡ o → Ends (t ∷ unwrap_or (option_map (chain_of n types) o) [])
    above f t None e = All-cons (λ z. is_none z.parent ≡ true → last_of (t ∷ []) ≡ Some z) t [] (λ h. refl) (All-nil (λ z. is_none z.parent ≡ true → last_of (t ∷ []) ≡ Some z))
    above f t (Some p) e = All-cons (λ z. is_none z.parent ≡ true → last_of (t ∷ chain_of n types p) ≡ Some z) t (chain_of n types p)
        (λ h. absurd (both_ways false refl (ap is_none (sym e) ∙ h))) (last_later t (chain_of n types p) (f p))

    by : ((p : List ℕ) → Ends (chain_of n types p)) → (o : Option TypeDef) → Ends (unwrap_or (option_map (λ t. t ∷ unwrap_or (option_map (chain_of n types) t.parent) []) o) [])
    by f None = All-nil (λ z. is_none z.parent ≡ true → last_of [] ≡ Some z)
    by f (Some t) = above f t t.parent refl

-- ---- the types of an object

module _ (types : List TypeDef) (w : HasTypes types) where
  abbrev IsFound : TypeDef → Type 0
  IsFound t = type_in types t.id ≡ Some t

  -- types of different ids are found by them
  all_there : (ts : List TypeDef) → Apart (Differ (λ t. t.id)) ts → All (λ t. type_in ts t.id ≡ Some t) ts
  all_there [] a = All-nil (λ t. type_in [] t.id ≡ Some t)
  all_there (t ∷ ts) a = All-cons (λ s. type_in (t ∷ ts) s.id ≡ Some s) t ts (find_yes (λ s. bytes_eq s.id t.id) t ts (bytes_same t.id t.id refl))
      (all_zip (λ s. bytes_eq t.id s.id ≡ false) (λ s. type_in ts s.id ≡ Some s) (λ s. type_in (t ∷ ts) s.id ≡ Some s) ts (λ s d e. rw d e) a.0 (all_there ts a.1))

  secondary_there : type_in types (codes "cmis:secondary") ≡ Some (base_row bases.Secondary)
  unfolding HasBases
  secondary_there = found_holds (λ b. type_in types b.id ≡ Some b) (λ b. bytes_eq b.id (codes "cmis:secondary")) base_types (base_row bases.Secondary) w.3 refl

  -- the top of the type's chain, or without properties
  abbrev IsTop : List ℕ → TypeDef → Type 0
  IsTop kind t = is_none t.parent ≡ true → (last_of (chain types kind) ≡ Some t) ⊎ (t.properties ≡ [])

  -- the top of a secondary type's chain has no properties
  top_empty : (kind s : List ℕ) → is_below types s (codes "cmis:secondary") ≡ true → All (IsTop kind) (chain types s)
  top_empty kind s h =
      let tops : All (λ z. is_none z.parent ≡ true → last_of (chain types s) ≡ Some z) (chain types s) = tops_last types longest_chain s in
      let found : All IsFound (chain types s) = chain_all IsFound longest_chain types s (all_there types w.0) in
      let both : All (λ z. IsFound z × (is_none z.parent ≡ true → last_of (chain types s) ≡ Some z)) (chain types s) =
      all_zip IsFound (λ z. is_none z.parent ≡ true → last_of (chain types s) ≡ Some z) (λ z. IsFound z × (is_none z.parent ≡ true → last_of (chain types s) ≡ Some z)) (chain types s) (λ z f t. (f, t)) found tops in
      any_holds (λ z. IsFound z × (is_none z.parent ≡ true → last_of (chain types s) ≡ Some z)) (λ z. bytes_eq z.id (codes "cmis:secondary")) (chain types s) both h
      (λ b f e.
      let it : b ≡ base_row bases.Secondary = some_eq b (base_row bases.Secondary) (sym f.0 ∙ (ap (type_in types) (bytes_true b.id (codes "cmis:secondary") e) ∙ secondary_there)) in
      let last : last_of (chain types s) ≡ Some b = f.1 (ap (λ t. is_none t.parent) it) in
      All-weaker (λ z. is_none z.parent ≡ true → last_of (chain types s) ≡ Some z) (IsTop kind)
      (λ z t n. inr (ap (λ t. t.properties) (some_eq z b (sym (t n) ∙ last) ∙ it))) (chain types s) tops)

  all_tops : (kind : List ℕ) (secondary : List (List ℕ)) → All (λ s. is_below types s (codes "cmis:secondary") ≡ true) secondary → All (IsTop kind) (types_of types kind secondary)
  all_tops kind secondary below = first_all (IsTop kind) (flat_map (λ s. reverse (chain types s)) (kind ∷ secondary))
      (flat_all (IsTop kind) (λ s. reverse (chain types s)) (kind ∷ secondary)
      (All-cons (λ s. All (IsTop kind) (reverse (chain types s))) kind secondary
      (reverse_all (IsTop kind) (chain types kind) (All-weaker (λ z. is_none z.parent ≡ true → last_of (chain types kind) ≡ Some z) (IsTop kind) (λ z t n. inl (t n)) (chain types kind) (tops_last types longest_chain kind)))
      (All-weaker (λ s. is_below types s (codes "cmis:secondary") ≡ true) (λ s. All (IsTop kind) (reverse (chain types s))) (λ s h. reverse_all (IsTop kind) (chain types s) (top_empty kind s h)) secondary below)))

  none_of : (s t : TypeDef) → t.properties ≡ [] → define_one s t ≡ false
  none_of s t h = ap (λ es. list_any (λ (d : PropDef). list_any (λ (e : PropDef). bytes_eq d.id e.id) es) s.properties) h ∙ nothing s.properties
    where
      nothing : (ds : List PropDef) → list_any (λ (d : PropDef). list_any (λ (e : PropDef). bytes_eq d.id e.id) []) ds ≡ false
      nothing [] = refl
      nothing (d ∷ ds) = nothing ds

  -- two of different ids define no property of one id
  two : (kind : List ℕ) (s t : TypeDef) → IsTop kind s → IsTop kind t → bytes_eq s.id t.id ≡ false → define_apart s t ≡ true → define_one s t ≡ false
  two kind s t f g differ h = by (bytes_eq s.id t.id) (is_none s.parent) (is_none t.parent) (define_one s t) refl refl refl differ h
    where
      by : (a b c d : Bool) → is_none s.parent ≡ b → is_none t.parent ≡ c → define_one s t ≡ d → a ≡ false → a || (b && c) || not d ≡ true → d ≡ false
      by true b c d x y z e h = absurd (both_ways true e refl)
      by false b c false x y z e h = refl
      by false true true true x y z e h = tops (f x) (g y)
        where
          tops : (last_of (chain types kind) ≡ Some s) ⊎ (s.properties ≡ []) → (last_of (chain types kind) ≡ Some t) ⊎ (t.properties ≡ []) → true ≡ false
          tops (inr k) m = sym z ∙ ap (λ ds. list_any (λ d. list_any (λ e. bytes_eq d.id e.id) t.properties) ds) k
          tops (inl k) (inr m) = sym z ∙ none_of s t m
          tops (inl k) (inl m) = absurd (both_ways (bytes_eq s.id t.id) differ (bytes_same s.id t.id (ap (λ t. t.id) (some_eq s t (sym k ∙ m)))))
      by false true false true x y z e h = absurd (both_ways false refl h)
      by false false c true x y z e h = absurd (both_ways false refl h)

  types_apart : (kind : List ℕ) (secondary : List (List ℕ)) → All (λ s. is_below types s (codes "cmis:secondary") ≡ true) secondary → Apart (λ s t. define_one s t ≡ false) (types_of types kind secondary)
  types_apart kind secondary below =
      let ts = types_of types kind secondary in
      apart_weaker (IsTop kind) (λ s t. (bytes_eq s.id t.id ≡ false) × (define_apart s t ≡ true)) (λ s t. define_one s t ≡ false) ts (λ s t f g h. two kind s t f g h.0 h.1) (all_tops kind secondary below)
      (apart_both (Differ (λ t. t.id)) (λ s t. define_apart s t ≡ true) ts (firsts_differ (flat_map (λ s. reverse (chain types s)) (kind ∷ secondary)))
      (apart_each (λ s t. define_apart s t ≡ true) ts
      (types_all (λ s. All (λ t. define_apart s t ≡ true) ts) types kind secondary
      (All-weaker (λ s. All (λ t. define_apart s t ≡ true) types) (λ s. All (λ t. define_apart s t ≡ true) ts) (λ s h. types_all (λ t. define_apart s t ≡ true) types kind secondary h) types w.7))))

  -- the properties of types that define none together
  of_types : (ts : List TypeDef) → Apart (λ s t. define_one s t ≡ false) ts → All (λ t. Apart (Differ (λ d. d.id)) t.properties) ts → Apart (Differ (λ d. d.id)) (flat_map (λ t. t.properties) ts)
  of_types [] a all = tt
  of_types (t ∷ ts) a all = apart_append (Differ (λ d. d.id)) t.properties (flat_map (λ t. t.properties) ts)
      (All-head (λ t. Apart (Differ (λ d. d.id)) t.properties) t ts all) (of_types ts a.1 (All-tail (λ t. Apart (Differ (λ d. d.id)) t.properties) t ts all))
      (others t.properties ts a.0)
    where
      others : (ds : List PropDef) (ss : List TypeDef) → All (λ s. list_any (λ d. list_any (λ e. bytes_eq d.id e.id) s.properties) ds ≡ false) ss → All (λ d. All (Differ (λ d. d.id) d) (flat_map (λ t. t.properties) ss)) ds
      others [] ss h = All-nil (λ d. All (Differ (λ d. d.id) d) (flat_map (λ t. t.properties) ss))
      others (d ∷ ds) ss h = All-cons (λ d. All (Differ (λ d. d.id) d) (flat_map (λ t. t.properties) ss)) d ds
          (flat_all (Differ (λ d. d.id) d) (λ t. t.properties) ss (All-weaker (λ s. list_any (λ d. list_any (λ e. bytes_eq d.id e.id) s.properties) (d ∷ ds) ≡ false) (λ s. All (Differ (λ d. d.id) d) s.properties)
          (λ s k. all_from_any (λ e. bytes_eq d.id e.id) s.properties (or_left (list_any (λ e. bytes_eq d.id e.id) s.properties) _ k)) ss h))
          (others ds ss (All-weaker (λ s. list_any (λ d. list_any (λ e. bytes_eq d.id e.id) s.properties) (d ∷ ds) ≡ false) (λ s. list_any (λ d. list_any (λ e. bytes_eq d.id e.id) s.properties) ds ≡ false)
          (λ s k. or_right (list_any (λ e. bytes_eq d.id e.id) s.properties) _ k) ss h))

  pub props_differ : (kind : List ℕ) (secondary : List (List ℕ)) → All (λ s. is_below types s (codes "cmis:secondary") ≡ true) secondary → Apart (λ d e. bytes_eq d.id e.id ≡ false) (props_of types kind secondary)
  props_differ kind secondary below = of_types (types_of types kind secondary) (types_apart kind secondary below)
      (types_all (λ t. Apart (Differ (λ d. d.id)) t.properties) types kind secondary
      (All-weaker (λ t. Apart (λ d e. slice_cmp nat_cmp d.id e.id ≡ Less) t.properties) (λ t. Apart (Differ (λ d. d.id)) t.properties) (λ t. differ t.properties) types w.6))
    where
      differ : (ds : List PropDef) → Apart (λ d e. slice_cmp nat_cmp d.id e.id ≡ Less) ds → Apart (Differ (λ d. d.id)) ds
      differ [] a = tt
      differ (d ∷ ds) a = (All-weaker (λ e. slice_cmp nat_cmp d.id e.id ≡ Less) (Differ (λ d. d.id) d) (λ e. less_differ d.id e.id) ds a.0, differ ds a.1)

-- ---- the values

-- of what is kept of properties that differ, each stands once
pub values_differ : (call : PropertyCall) (defs : List PropDef) (old : List Slot) (given : List Given) → Apart (λ d e. bytes_eq d.id e.id ≡ false) defs → Apart (λ s t. bytes_eq s.id t.id ≡ false) (kept_beside (kept_values call defs old given))
values_differ call defs old given a = apart_filter (λ s t. bytes_eq s.id t.id ≡ false) (λ s. not (is_apart s.id) && is_set s.value) (kept_values call defs old given)
    (apart_map (λ (s t : Slot). bytes_eq s.id t.id ≡ false) (λ d. record { id = d.id; value = kept_value call old given d }) defs a)

-- what a create keeps is of the new object's own properties, each once
pub owns_new : (types : List TypeDef) (given : List Given) (x : Object) → HasTypes types → IsTyped types x
    → x.values ≡ kept_beside (kept_values calls.Create (props_of types x.kind x.secondary) [] given) → OwnsValues types x
owns_new types given x w typed values = subst (λ vs. All (IsOwn types x) vs × Apart (λ s t. bytes_eq s.id t.id ≡ false) vs) (sym values)
    (owns_kept types calls.Create [] given x, values_differ calls.Create (props_of types x.kind x.secondary) [] given (props_differ types w x.kind x.secondary typed.1))
