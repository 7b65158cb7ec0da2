-- Types where they stand first, one by one.
use Rattle.std.proofs.Common.{◌≡◌, ◌∙◌, Bool, true, false, cond, not, ◌||◌, List, [], ◌∷◌, ◌++◌, map, fold, refl, sym, ap, append-nil, append_assoc}
use Rattle.std.specs.Prelude.{bytes_eq, filter}
use Rattle.std.specs.List.{list_any}
use Rattle.std.proofs.lemmas.Cmp.{nat_list_eq_equiv}
use Rattle.std.proofs.lemmas.List.Elements.{filter-append}
use Rattle.std.proofs.lemmas.List.{map-append}
use denote.Ref.{Bor}
use Rattle.cm_map.specs.Parts.{pointee}
use Rattle.cm_types.specs.declared.definition.TypeDef.{TypeDef}
use Rattle.cm_types.specs.Types.{first_of_each}
use Rattle.cm_type_list.specs.Firsts.{with_first}
use Rattle.cm_type_list.proofs.Looping.{any_map}

other : TypeDef → TypeDef → Bool
other x s = not (bytes_eq s.id x.id)

-- a type that is one is not the other
apart : (x t s : TypeDef) → bytes_eq x.id t.id ≡ false → bytes_eq s.id t.id ≡ true → bytes_eq s.id x.id ≡ false
apart x t s n e = nat_list_eq_equiv.congr s.id t.id x.id e ∙ nat_list_eq_equiv.symm t.id x.id ∙ n

any_by : (x t s : TypeDef) (ts : List TypeDef) (b : Bool) → bytes_eq x.id t.id ≡ false → bytes_eq s.id t.id ≡ b
    → list_any (λ s. bytes_eq s.id t.id) (filter (λ s. not (bytes_eq s.id x.id)) ts) ≡ list_any (λ s. bytes_eq s.id t.id) ts
    → list_any (λ s. bytes_eq s.id t.id) (filter (λ s. not (bytes_eq s.id x.id)) (s ∷ ts)) ≡ (b || list_any (λ s. bytes_eq s.id t.id) ts)
any_by x t s ts true n e h =
    let rest = filter (λ s. not (bytes_eq s.id x.id)) ts in
    ap (λ b. list_any (λ s. bytes_eq s.id t.id) (cond (not b) (s ∷ rest) rest)) (apart x t s n e)
    ∙ ap (λ b. b || list_any (λ s. bytes_eq s.id t.id) rest) e
any_by x t s ts false n e h =
    let rest = filter (λ s. not (bytes_eq s.id x.id)) ts in
    kept (bytes_eq s.id x.id) rest ∙ h
  where
    kept : (b : Bool) (rest : List TypeDef) → list_any (λ s. bytes_eq s.id t.id) (cond (not b) (s ∷ rest) rest) ≡ list_any (λ s. bytes_eq s.id t.id) rest
    kept true rest = refl
    kept false rest = ap (λ b. b || list_any (λ s. bytes_eq s.id t.id) rest) e

any_other : (x t : TypeDef) (ts : List TypeDef) → bytes_eq x.id t.id ≡ false
    → list_any (λ s. bytes_eq s.id t.id) (filter (λ s. not (bytes_eq s.id x.id)) ts) ≡ list_any (λ s. bytes_eq s.id t.id) ts
any_other x t [] n = refl
any_other x t (s ∷ ts) n =
    any_by x t s ts (bytes_eq s.id t.id) n refl (any_other x t ts n)

-- filtering one more
filter_one : (x t : TypeDef) (ts : List TypeDef) (b : Bool) → bytes_eq t.id x.id ≡ b
    → filter (λ s. not (bytes_eq s.id x.id)) (ts ++ t ∷ []) ≡ cond b (filter (λ s. not (bytes_eq s.id x.id)) ts) (filter (λ s. not (bytes_eq s.id x.id)) ts ++ t ∷ [])
filter_one x t ts true e =
    filter-append (λ s. not (bytes_eq s.id x.id)) ts (t ∷ [])
    ∙ ap (λ b. filter (λ s. not (bytes_eq s.id x.id)) ts ++ cond (not b) (t ∷ []) []) e ∙ append-nil (filter (λ s. not (bytes_eq s.id x.id)) ts)
filter_one x t ts false e =
    filter-append (λ s. not (bytes_eq s.id x.id)) ts (t ∷ [])
    ∙ ap (λ b. filter (λ s. not (bytes_eq s.id x.id)) ts ++ cond (not b) (t ∷ []) []) e

-- behind a first type x
behind : (x t : TypeDef) (ts : List TypeDef) (same found : Bool) → bytes_eq x.id t.id ≡ same → list_any (λ s. bytes_eq s.id t.id) ts ≡ found
    → (x ∷ filter (λ s. not (bytes_eq s.id x.id)) (cond found ts (ts ++ t ∷ [])))
    ≡ cond (same || list_any (λ s. bytes_eq s.id t.id) (filter (λ s. not (bytes_eq s.id x.id)) ts)) (x ∷ filter (λ s. not (bytes_eq s.id x.id)) ts) ((x ∷ filter (λ s. not (bytes_eq s.id x.id)) ts) ++ t ∷ [])
behind x t ts true true e f = refl
behind x t ts true false e f = ap (λ l. x ∷ l) (filter_one x t ts true (nat_list_eq_equiv.symm t.id x.id ∙ e))
behind x t ts false true e f =
    let rest = filter (λ s. not (bytes_eq s.id x.id)) ts in
    sym (ap (λ b. cond b (x ∷ rest) ((x ∷ rest) ++ t ∷ [])) (any_other x t ts e ∙ f))
behind x t ts false false e f =
    let rest = filter (λ s. not (bytes_eq s.id x.id)) ts in
    ap (λ l. x ∷ l) (filter_one x t ts false (nat_list_eq_equiv.symm t.id x.id ∙ e))
    ∙ sym (ap (λ b. cond b (x ∷ rest) ((x ∷ rest) ++ t ∷ [])) (any_other x t ts e ∙ f))

first_more : (ts : List TypeDef) (t : TypeDef) → first_of_each (ts ++ t ∷ []) ≡ with_first (first_of_each ts) t
first_more [] t = refl
first_more (x ∷ ts) t =
    ap (λ l. x ∷ filter (λ s. not (bytes_eq s.id x.id)) l) (first_more ts t)
    ∙ behind x t (first_of_each ts) (bytes_eq x.id t.id) (list_any (λ s. bytes_eq s.id t.id) (first_of_each ts)) refl refl

-- a type that is not there yet is pushed
pub pushed_first : (ts : List (Bor TypeDef)) (t : Bor TypeDef) → list_any (λ (s : Bor TypeDef). bytes_eq s.now.id t.now.id) ts ≡ false
    → map pointee (ts ++ t ∷ []) ≡ with_first (map pointee ts) t.now
pushed_first ts t h =
    map-append pointee ts (t ∷ [])
    ∙ sym (ap (λ b. cond b (map pointee ts) (map pointee ts ++ t.now ∷ [])) (any_map (λ s. bytes_eq s.id t.now.id) pointee ts ∙ h))

-- a type that is there stays
pub kept_first : (ts : List (Bor TypeDef)) (t : Bor TypeDef) → list_any (λ (s : Bor TypeDef). bytes_eq s.now.id t.now.id) ts ≡ true
    → map pointee ts ≡ with_first (map pointee ts) t.now
kept_first ts t h = sym (ap (λ b. cond b (map pointee ts) (map pointee ts ++ t.now ∷ [])) (any_map (λ s. bytes_eq s.id t.now.id) pointee ts ∙ h))

more : (ts us : List TypeDef) → first_of_each (ts ++ us) ≡ fold with_first (first_of_each ts) us
more ts [] = ap first_of_each (append-nil ts)
more ts (u ∷ us) =
    ap first_of_each (sym (append_assoc ts (u ∷ []) us))
    ∙ more (ts ++ u ∷ []) us
    ∙ ap (λ l. fold with_first l us) (first_more ts u)

-- the types where they stand first are added one by one
pub first_fold : (ts : List TypeDef) → first_of_each ts ≡ fold with_first [] ts
first_fold ts = more [] ts
