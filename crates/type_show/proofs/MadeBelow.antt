-- The type that is made of a shown one, below its parent, is it.
use Rattle.std.proofs.Common.{◌≡◌, ◌∙◌, ℕ, List, [], ◌∷◌, ◌++◌, Bool, true, false, refl, sym, ap, append_assoc}
use Rattle.std.specs.Prelude.{cond, Some, filter, fold, unwrap_or}
use Rattle.std.specs.List.{list_all}
use Rattle.std.specs.Ordering.{nat_cmp, is_lt, ordering_reverse}
use Rattle.std.specs.Cmp.Lexicographic.{slice_cmp, nat_list_cmp_total}
use Rattle.std.proofs.lemmas.List.{append-nil}
use Rattle.cm_types.specs.declared.property.PropDef.{PropDef}
use Rattle.cm_types.specs.declared.definition.BaseType.{BaseType}
use Rattle.cm_types.specs.declared.definition.TypeDef.{TypeDef}
use Rattle.cm_types.specs.Changes.{is_before, placed, sorted_props, made_type, if_kept, is_document, is_relationship}
use Rattle.type_show.specs.ReadBack.{asked_type, IsSoundType, ascend, IsMadeBelow}
use Rattle.type_show.proofs.Putting.{both, first, second, less}
use Rattle.type_show.proofs.AskedType.{props_made}

-- each of these stands before k
abbrev all_before : List PropDef → List ℕ → Bool
all_before xs k = list_all (λ e. is_before e.id k) xs

not_after : (a b : List ℕ) → is_before a b ≡ true → is_before b a ≡ false
not_after a b h = ap is_lt (nat_list_cmp_total.antisymm b a ∙ ap ordering_reverse (less (slice_cmp nat_cmp a b) h))

before_kept : (xs : List PropDef) (k : List ℕ) → all_before xs k ≡ true → filter (λ e. is_before e.id k) xs ≡ xs
before_kept [] k h = refl
before_kept (x ∷ xs) k h =
    ap (λ b. cond b (x ∷ filter (λ e. is_before e.id k) xs) (filter (λ e. is_before e.id k) xs)) (first _ _ h)
    ∙ ap (λ l. x ∷ l) (before_kept xs k (second (is_before x.id k) _ h))

none_after : (xs : List PropDef) (k : List ℕ) → all_before xs k ≡ true → filter (λ e. is_before k e.id) xs ≡ []
none_after [] k h = refl
none_after (x ∷ xs) k h =
    ap (λ b. cond b (x ∷ filter (λ e. is_before k e.id) xs) (filter (λ e. is_before k e.id) xs)) (not_after x.id k (first _ _ h))
    ∙ none_after xs k (second (is_before x.id k) _ h)

placed_last : (xs : List PropDef) (d : PropDef) → all_before xs d.id ≡ true → placed (λ e. e.id) d xs ≡ xs ++ d ∷ []
placed_last xs d h = ap (λ l. l ++ d ∷ filter (λ e. is_before d.id e.id) xs) (before_kept xs d.id h) ∙ ap (λ l. xs ++ d ∷ l) (none_after xs d.id h)

before_more : (xs : List PropDef) (d : PropDef) (k : List ℕ) → all_before xs k ≡ true → is_before d.id k ≡ true → all_before (xs ++ d ∷ []) k ≡ true
before_more [] d k h l = both _ _ l refl
before_more (x ∷ xs) d k h l = both _ _ (first _ _ h) (before_more xs d k (second (is_before x.id k) _ h) l)

all_more : (xs : List PropDef) (d : PropDef) (ds : List PropDef) → list_all (λ e. all_before xs e.id) ds ≡ true → list_all (λ e. is_before d.id e.id) ds ≡ true
    → list_all (λ e. all_before (xs ++ d ∷ []) e.id) ds ≡ true
all_more xs d [] h l = refl
all_more xs d (e ∷ ds) h l =
    both _ _
    (before_more xs d e.id (first _ _ h) (first _ _ l))
    (all_more xs d ds (second (all_before xs e.id) _ h) (second (is_before d.id e.id) _ l))

sorted_from : (ds xs : List PropDef) → list_all (λ e. all_before xs e.id) ds ≡ true → ascend ds ≡ true → fold (λ all d. placed (λ e. e.id) d all) xs ds ≡ xs ++ ds
sorted_from [] xs h a = sym (append-nil xs)
sorted_from (d ∷ ds) xs h a =
    ap (λ l. fold (λ all e. placed (λ f. f.id) e all) l ds) (placed_last xs d (first _ _ h))
    ∙ sorted_from ds (xs ++ d ∷ []) (all_more xs d ds (second (all_before xs d.id) _ h) (first _ _ a)) (second (list_all (λ e. is_before d.id e.id) ds) _ a)
    ∙ append_assoc xs (d ∷ []) ds

all_true : (ds : List PropDef) → list_all (λ e. true) ds ≡ true
all_true [] = refl
all_true (d ∷ ds) = all_true ds

sorted_again : (ds : List PropDef) → ascend ds ≡ true → sorted_props ds ≡ ds
sorted_again ds a = sorted_from ds [] (all_true ds) a

kept_or : {A : Type 0} (kept : Bool) (own other : A) → (kept ≡ false → own ≡ other) → unwrap_or (if_kept kept (if_kept kept (Some own))) other ≡ own
kept_or true own other h = refl
kept_or false own other h = sym (h refl)

-- what the request and the type below the parent keep is the own one, and else the parent's
kept_at : {A : Type 0} (test : BaseType → Bool) (base above : BaseType) → base ≡ above → (own other : A) → (test base ≡ false → own ≡ other)
    → unwrap_or (if_kept (test above) (if_kept (test base) (Some own))) other ≡ own
kept_at test base above e own other h = ap (λ b. unwrap_or (if_kept (test b) (if_kept (test base) (Some own))) other) (sym e) ∙ kept_or (test base) own other h

pub type_again : (parent t : TypeDef) → IsSoundType t → IsMadeBelow parent t → made_type parent (asked_type t) ≡ t
type_again parent t s m = λ i. record t {
  base = sym m.base i;
  parent = sym m.parent_is i;
  fileable = sym m.fileable i;
  fulltext_indexed = sym m.fulltext_indexed i;
  versionable = kept_at (λ b. is_document b) t.base parent.base m.base t.versionable parent.versionable m.versionable i;
  content_allowed = kept_at (λ b. is_document b) t.base parent.base m.base t.content_allowed parent.content_allowed m.content_allowed i;
  allowed_source_types = kept_at (λ b. is_relationship b) t.base parent.base m.base t.allowed_source_types [] m.allowed_source_types i;
  allowed_target_types = kept_at (λ b. is_relationship b) t.base parent.base m.base t.allowed_target_types [] m.allowed_target_types i;
  properties = (ap sorted_props (props_made t.properties s.properties) ∙ sorted_again t.properties s.in_order) i;
}
