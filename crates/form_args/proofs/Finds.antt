-- What one more pair changes for an index by name.
use Rattle.std.proofs.Common.{◌≡◌, ℕ, ◌+◌, ◌<◌, Bool, true, false, cond, List, [], ◌∷◌, ◌++◌, length, get_or, refl, sym, ap, ◌∙◌, arith, length-append}
use Rattle.std.specs.Prelude.{Option, Some, None, option_map, bytes_eq}
use Rattle.std.specs.Option.{IfSome, is_some}
use Rattle.std.specs.Cmp.Lexicographic.{bytes_decides}
use Rattle.std.proofs.lemmas.List.{get_or_append_left, get_or-append-add}
use Rattle.form_args.specs.declared.pairs.Pair.{Pair}
use Rattle.form_args.specs.Pairs.{first_of}
use Rattle.form_args.specs.Index.{FindsFirst}

abbrev or_else : {A : Type 0} → Option A → Option A → Option A
or_else None other = other
or_else (Some x) other = Some x

abbrev value_if : Pair → Bool → Option (List ℕ)
value_if p true = Some p.value
value_if p false = None

-- the first of a name is among the pairs before, or is the pair at the end
first_push : (done : List Pair) (p : Pair) (q : List ℕ) → first_of (done ++ p ∷ []) q ≡ or_else (first_of done q) (value_if p (bytes_eq p.name q))
first_push [] p q = elim (bytes_eq p.name q) as (λ t. (bytes_eq p.name q ≡ t) → first_of (p ∷ []) q ≡ value_if p t) [
  | true ↦ λ e. rw e refl
  | false ↦ λ e. rw e refl
] refl
first_push (x ∷ xs) p q = elim (bytes_eq x.name q) as (λ t. (bytes_eq x.name q ≡ t) → first_of ((x ∷ xs) ++ p ∷ []) q ≡ or_else (first_of (x ∷ xs) q) (value_if p (bytes_eq p.name q))) [
  | true ↦ λ e. rw e refl
  | false ↦ λ e. rw e (first_push xs p q)
] refl

-- places before the end keep their values
values_stay : (done : List Pair) (p d : Pair) (o : Option ℕ) → IfSome o (λ i. i < length done)
    → option_map (λ i. (get_or (done ++ p ∷ []) i d).value) o ≡ option_map (λ i. (get_or done i d).value) o
values_stay done p d None lt = refl
values_stay done p d (Some i) lt = ap (λ x. Some (x.value)) (get_or_append_left done (p ∷ []) d i lt)

stays_within : (n m : ℕ) (o : Option ℕ) → n < m → IfSome o (λ i. i < n) → IfSome o (λ i. i < m)
stays_within n m None le h = tt
stays_within n m (Some i) le h = omega arith

longer : (done : List Pair) (p : Pair) → length (done ++ p ∷ []) ≡ length done + 1
longer done p = length-append done (p ∷ [])

else_same : (o e : Option (List ℕ)) → (o ≡ None → e ≡ None) → or_else o e ≡ o
else_same None e h = h refl
else_same (Some v) e h = refl

none_mapped : (f : ℕ → List ℕ) (o : Option ℕ) → is_some o ≡ true → option_map f o ≡ None → ⊥
none_mapped f None h e = absurd cc
none_mapped f (Some i) h e = absurd cc

-- a pair whose name is found already changes nothing
pub FindsFirst-known : (place : List ℕ → Option ℕ) (done : List Pair) (p : Pair) → FindsFirst place done → is_some (place p.name) ≡ true → FindsFirst place (done ++ p ∷ [])
FindsFirst-known place done p h known = record {
  within = λ q. stays_within (length done) (length (done ++ p ∷ [])) (place q) (omega (arith, longer done p)) (h.within q);
  finds = λ q d. first_push done p q ∙ else_same (first_of done q) (value_if p (bytes_eq p.name q)) (λ e. differs q d (bytes_eq p.name q) refl e) ∙ h.finds q d ∙ sym (values_stay done p d (place q) (h.within q));
}
  where
    differs : (q : List ℕ) (d : Pair) (b : Bool) → bytes_eq p.name q ≡ b → first_of done q ≡ None → value_if p b ≡ None
    differs q d false same none = refl
    differs q d true same none =
        let is : p.name ≡ q = (bytes_decides p.name q).0 same in
        let known_q : is_some (place q) ≡ true = rw is at known in
        absurd (none_mapped (λ i. (get_or done i d).value) (place q) known_q (sym (h.finds q d) ∙ none))

-- a pair of a new name is found at its place
pub FindsFirst-new : (place new : List ℕ → Option ℕ) (done : List Pair) (p : Pair) → FindsFirst place done → is_some (place p.name) ≡ false
    → ((q : List ℕ) → new q ≡ cond (bytes_eq p.name q) (Some (length done)) (place q)) → FindsFirst new (done ++ p ∷ [])
FindsFirst-new place new done p h unknown sets = record {
  within = λ q. within_by q (bytes_eq p.name q) refl;
  finds = λ q d. finds_by q d (bytes_eq p.name q) refl;
}
  where
    within_by : (q : List ℕ) (b : Bool) → bytes_eq p.name q ≡ b → IfSome (new q) (λ i. i < length (done ++ p ∷ []))
    within_by q true same = rw (sets q, same) (omega (arith, longer done p))
    within_by q false same = rw (sets q, same) (stays_within (length done) (length (done ++ p ∷ [])) (place q) (omega (arith, longer done p)) (h.within q))

    none_by : (f : ℕ → List ℕ) (o : Option ℕ) → is_some o ≡ false → option_map f o ≡ None
    none_by f None e = refl
    none_by f (Some i) e = absurd cc

    finds_by : (q : List ℕ) (d : Pair) (b : Bool) → bytes_eq p.name q ≡ b → first_of (done ++ p ∷ []) q ≡ option_map (λ i. (get_or (done ++ p ∷ []) i d).value) (new q)
    finds_by q d true same =
        let is : p.name ≡ q = (bytes_decides p.name q).0 same in
        let unknown_q : is_some (place q) ≡ false = rw is at unknown in
        let none : first_of done q ≡ None = h.finds q d ∙ none_by (λ i. (get_or done i d).value) (place q) unknown_q in
        let at : get_or (done ++ p ∷ []) (length done) d ≡ p = ap (λ n. get_or (done ++ p ∷ []) n d) (omega arith) ∙ get_or-append-add done (p ∷ []) 0 d in
        first_push done p q ∙ rw (none, same, sets q, same, at) refl
    finds_by q d false same =
        first_push done p q ∙ else_same (first_of done q) (value_if p (bytes_eq p.name q)) (λ e. rw same refl) ∙ h.finds q d
        ∙ sym (rw (sets q, same) (values_stay done p d (place q) (h.within q)))

pub FindsFirst-empty : (place : List ℕ → Option ℕ) → ((q : List ℕ) → place q ≡ None) → FindsFirst place []
FindsFirst-empty place none = record {
  within = λ q. rw (none q) tt;
  finds = λ q d. rw (none q) refl;
}
