-- A document has the property of a check-in's comment: its type's chain ends with the base type of documents, as that type's row says.
use Rattle.std.specs.Prelude.{◌≡◌, ℕ, zero, suc, Bool, true, false, not, List, [], ◌∷◌, ◌++◌, find, filter, reverse, All, Option, Some, None, is_some, unwrap_or, option_map, bytes_eq, codes}
use Rattle.std.specs.List.{list_any, flat_map, slice_get}
use mathlib.Core.List.{reverse_aux}
use Rattle.std.proofs.Common.{refl, sym, ap, subst, ◌∙◌}
use Rattle.std.proofs.lemmas.Bool.{both_ways}
use Rattle.std.proofs.lemmas.List.Elements.{All-nil, All-cons, All-head, All-tail, All-append, All-filter}
use Rattle.cm_types.specs.declared.definition.TypeDef.{TypeDef}
use Rattle.cm_types.specs.declared.definition.BaseType.{BaseType}
use Rattle.cm_types.specs.declared.definition.BaseType.TheVariants as bases
use Rattle.cm_types.specs.BaseTypes.{base_row, base_types}
use Rattle.cm_types.specs.Changes.{base_id}
use Rattle.cm_types.specs.Types.{type_in, chain_of, chain, longest_chain, same_base, is_of_base, first_of_each, types_of, props_of}
use Rattle.cm_types.specs.Properties.{def_of}
use Rattle.cmis_spec.specs.Repository.{last_of}
use Rattle.cmis_spec.specs.Well.{HasBases, IsRooted, HasTypes}
use Rattle.cmis_laws.proofs.Lists.{by_test, find_yes, found_holds, found_passes, none_some, some_eq}
use Rattle.cmis_laws.proofs.Kept.{bytes_true}
use Rattle.cmis_laws.proofs.Moved.{map_some}

-- ---- one of a list

any_here : {A : Type 0} (p : A → Bool) (x : A) (xs : List A) → p x ≡ true → list_any p (x ∷ xs) ≡ true
any_here p x xs e = rw e refl

any_later : {A : Type 0} (p : A → Bool) (x : A) (xs : List A) → list_any p xs ≡ true → list_any p (x ∷ xs) ≡ true
any_later p x xs h = by_test (p x) (any_here p x xs) (λ e. rw e h)

any_rest : {A : Type 0} (p : A → Bool) (x : A) (xs : List A) → list_any p (x ∷ xs) ≡ true → p x ≡ false → list_any p xs ≡ true
any_rest p x xs h e = rw e at h

any_left : {A : Type 0} (p : A → Bool) (xs ys : List A) → list_any p xs ≡ true → list_any p (xs ++ ys) ≡ true
any_left p [] ys h = absurd (both_ways false refl h)
any_left p (x ∷ xs) ys h = by_test (p x) (any_here p x (xs ++ ys)) (λ e. any_later p x (xs ++ ys) (any_left p xs ys (any_rest p x xs h e)))

any_right : {A : Type 0} (p : A → Bool) (xs ys : List A) → list_any p ys ≡ true → list_any p (xs ++ ys) ≡ true
any_right p [] ys h = h
any_right p (x ∷ xs) ys h = any_later p x (xs ++ ys) (any_right p xs ys h)

onto_kept : {A : Type 0} (p : A → Bool) (xs ys : List A) → list_any p ys ≡ true → list_any p (reverse_aux xs ys) ≡ true
onto_kept p [] ys h = h
onto_kept p (x ∷ xs) ys h = onto_kept p xs (x ∷ ys) (any_later p x ys h)

onto_any : {A : Type 0} (p : A → Bool) (xs ys : List A) → list_any p xs ≡ true → list_any p (reverse_aux xs ys) ≡ true
onto_any p [] ys h = absurd (both_ways false refl h)
onto_any p (x ∷ xs) ys h = by_test (p x) (λ e. onto_kept p xs (x ∷ ys) (any_here p x ys e)) (λ e. onto_any p xs (x ∷ ys) (any_rest p x xs h e))

any_flat : {A B : Type 0} (f : A → List B) (p : B → Bool) (xs : List A) → list_any (λ x. list_any p (f x)) xs ≡ true → list_any p (flat_map f xs) ≡ true
any_flat f p [] h = absurd (both_ways false refl h)
any_flat f p (x ∷ xs) h = by_test (list_any p (f x)) (any_left p (f x) (flat_map f xs))
    (λ e. any_right p (f x) (flat_map f xs) (any_flat f p xs (any_rest (λ x. list_any p (f x)) x xs h e)))

some_any : {A : Type 0} (p : A → Bool) (xs : List A) → list_any p xs ≡ is_some (find p xs)
some_any p [] = refl
some_any p (x ∷ xs) = by_test (p x) (λ e. any_here p x xs e ∙ sym (ap is_some (find_yes p x xs e))) (λ e. rw e (some_any p xs))

slice_any : {A : Type 0} (p : A → Bool) (xs : List A) (i : ℕ) (b : A) → slice_get xs i ≡ Some b → p b ≡ true → list_any p xs ≡ true
slice_any p [] i b h k = absurd (none_some b h)
slice_any p (x ∷ xs) zero b h k = any_here p x xs (subst (λ z. p z ≡ true) (sym (some_eq x b h)) k)
slice_any p (x ∷ xs) (suc i) b h k = any_later p x xs (slice_any p xs i b h k)

pub slice_holds : {A : Type 0} (P : A → Type 0) (xs : List A) (i : ℕ) (b : A) → All P xs → slice_get xs i ≡ Some b → P b
slice_holds P [] i b all h = absurd (none_some b h)
slice_holds P (x ∷ xs) zero b all h = subst P (some_eq x b h) (All-head P x xs all)
slice_holds P (x ∷ xs) (suc i) b all h = slice_holds P xs i b (All-tail P x xs all) h

-- ---- chains

module _ (types : List TypeDef) where
  abbrev IsFound : TypeDef → Type 0
  IsFound t = type_in types t.id ≡ Some t

  found_at : (id : List ℕ) (t : TypeDef) → type_in types id ≡ Some t → IsFound t
  found_at id t e = ap (type_in types) (bytes_true t.id id (found_passes (λ t. bytes_eq t.id id) types t e)) ∙ e

  chain_found : (n : ℕ) (id : List ℕ) → All IsFound (chain_of n types id)
  chain_found zero id = All-nil IsFound
  chain_found (suc n) id = elim (type_in types id) as (λ o. type_in types id ≡ o → All IsFound (unwrap_or (option_map (λ t. t ∷ unwrap_or (option_map (chain_of n types) t.parent) []) o) [])) [
    | None ↦ λ e. All-nil IsFound
    | Some t ↦ λ e. All-cons IsFound t (unwrap_or (option_map (chain_of n types) t.parent) []) (found_at id t e) (above (chain_found n) t.parent)
  ] refl
    where
      above : ((p : List ℕ) → All IsFound (chain_of n types p)) → (o : Option (List ℕ)) → All IsFound (unwrap_or (option_map (chain_of n types) o) [])
      above f None = All-nil IsFound
      above f (Some p) = f p

  onto_found : (xs ys : List TypeDef) → All IsFound xs → All IsFound ys → All IsFound (reverse_aux xs ys)
  onto_found [] ys all more = more
  onto_found (x ∷ xs) ys all more = onto_found xs (x ∷ ys) (All-tail IsFound x xs all) (All-cons IsFound x ys (All-head IsFound x xs all) more)

  chains_found : (ids : List (List ℕ)) → All IsFound (flat_map (λ s. reverse (chain types s)) ids)
  chains_found [] = All-nil IsFound
  chains_found (id ∷ ids) = All-append IsFound (reverse (chain types id)) (flat_map (λ s. reverse (chain types s)) ids) (onto_found (chain types id) [] (chain_found longest_chain id) (All-nil IsFound)) (chains_found ids)

  firsts_found : (ts : List TypeDef) → All IsFound ts → All IsFound (first_of_each ts)
  firsts_found [] all = All-nil IsFound
  firsts_found (t ∷ ts) all = All-cons IsFound t (filter (λ s. not (bytes_eq s.id t.id)) (first_of_each ts)) (All-head IsFound t ts all)
      (All-filter (λ s. not (bytes_eq s.id t.id)) IsFound (first_of_each ts) (firsts_found ts (All-tail IsFound t ts all)))

  -- what a type fails, none of its id passes
  any_apart : (q : TypeDef → Bool) (t : TypeDef) → IsFound t → q t ≡ false → (ss : List TypeDef) → All IsFound ss → list_any q ss ≡ true → list_any q (filter (λ s. not (bytes_eq s.id t.id)) ss) ≡ true
  any_apart q t f fails [] all h = absurd (both_ways false refl h)
  any_apart q t f fails (s ∷ ss) all h = by_test (bytes_eq s.id t.id)
      (λ e. let it : s ≡ t = some_eq s t (sym (All-head IsFound s ss all) ∙ (ap (type_in types) (bytes_true s.id t.id e) ∙ f)) in
      rw e (any_apart q t f fails ss (All-tail IsFound s ss all) (any_rest q s ss h (ap q it ∙ fails))))
      (λ e. rw e (by_test (q s) (any_here q s (filter (λ s. not (bytes_eq s.id t.id)) ss))
      (λ d. any_later q s (filter (λ s. not (bytes_eq s.id t.id)) ss) (any_apart q t f fails ss (All-tail IsFound s ss all) (any_rest q s ss h d)))))

  first_any : (q : TypeDef → Bool) (ts : List TypeDef) → All IsFound ts → list_any q ts ≡ true → list_any q (first_of_each ts) ≡ true
  first_any q [] all h = absurd (both_ways false refl h)
  first_any q (t ∷ ts) all h = by_test (q t) (any_here q t (filter (λ s. not (bytes_eq s.id t.id)) (first_of_each ts)))
      (λ e. any_later q t (filter (λ s. not (bytes_eq s.id t.id)) (first_of_each ts))
      (any_apart q t (All-head IsFound t ts all) e (first_of_each ts) (firsts_found ts (All-tail IsFound t ts all)) (first_any q ts (All-tail IsFound t ts all) (any_rest q t ts h e))))

  document_id : (b : BaseType) → same_base bases.Document b ≡ true → base_id b ≡ codes "cmis:document"
  document_id bases.Document h = refl
  document_id bases.Folder h = absurd (both_ways false refl h)
  document_id bases.Relationship h = absurd (both_ways false refl h)
  document_id bases.Policy h = absurd (both_ways false refl h)
  document_id bases.Item h = absurd (both_ways false refl h)
  document_id bases.Secondary h = absurd (both_ways false refl h)

  row_there : HasTypes types → type_in types (codes "cmis:document") ≡ Some (base_row bases.Document)
  unfolding HasBases
  row_there w = found_holds (λ b. type_in types b.id ≡ Some b) (λ b. bytes_eq b.id (codes "cmis:document")) base_types (base_row bases.Document) w.3 refl

  abbrev defines : TypeDef → Bool
  defines t = list_any (λ d. bytes_eq d.id (codes "cmis:checkinComment")) t.properties

  -- the chain of a document's type has one that defines it
  chain_defines : HasTypes types → (kind : List ℕ) → is_of_base types bases.Document kind ≡ true → list_any defines (chain types kind) ≡ true
  chain_defines w kind h = by (type_in types kind) refl h
    where
      by : (o : Option TypeDef) → type_in types kind ≡ o → unwrap_or (option_map (same_base bases.Document) (option_map (λ t. t.base) o)) false ≡ true → list_any defines (chain types kind) ≡ true
      by None e h = absurd (both_ways false refl h)
      by (Some k) e h =
          let at : k.id ≡ kind = bytes_true k.id kind (found_passes (λ t. bytes_eq t.id kind) types k e) in
          let rooted : option_map (λ b. b.id) (last_of (chain types kind)) ≡ Some (codes "cmis:document") =
          subst (λ i. option_map (λ b. b.id) (last_of (chain types i)) ≡ Some (codes "cmis:document")) at (found_holds (IsRooted types) (λ t. bytes_eq t.id kind) types k w.4 e ∙ ap Some (document_id k.base h)) in
          let top = map_some (λ b. b.id) (last_of (chain types kind)) (codes "cmis:document") rooted in
          let found : IsFound top.0 = slice_holds IsFound (chain types kind) _ top.0 (chain_found longest_chain kind) top.1 in
          let it : top.0 ≡ base_row bases.Document = some_eq top.0 (base_row bases.Document) (sym found ∙ (ap (type_in types) top.2 ∙ row_there w)) in
          slice_any defines (chain types kind) _ top.0 top.1 (ap defines it)

  pub has_comment : HasTypes types → (kind : List ℕ) (secondary : List (List ℕ)) → is_of_base types bases.Document kind ≡ true → is_some (def_of (props_of types kind secondary) (codes "cmis:checkinComment")) ≡ true
  has_comment w kind secondary h = sym (some_any (λ d. bytes_eq d.id (codes "cmis:checkinComment")) (props_of types kind secondary))
      ∙ any_flat (λ t. t.properties) (λ d. bytes_eq d.id (codes "cmis:checkinComment")) (types_of types kind secondary)
      (first_any defines (flat_map (λ s. reverse (chain types s)) (kind ∷ secondary)) (chains_found (kind ∷ secondary))
      (any_left defines (reverse (chain types kind)) (flat_map (λ s. reverse (chain types s)) secondary) (onto_any defines (chain types kind) [] (chain_defines w kind h))))
