-- A type is changed: the list of types stays well formed, and objects are what they were; a property that is new is unset in them.
use Rattle.std.specs.Prelude.{◌≡◌, ℕ, Bool, true, false, not, ◌&&◌, ◌||◌, ◌⊎◌, if◌then◌else◌, List, [], ◌∷◌, ◌++◌, fold, find, All, Option, Some, None, is_some, option_map, unwrap_or, bytes_eq}
use Rattle.std.specs.List.{list_any, flat_map}
use Rattle.core.specs.Ordering.{nat_cmp}
use Rattle.core.specs.Cmp.Lexicographic.{slice_cmp}
use Rattle.core.specs.declared.cmp.Ordering.TheVariants.{Less}
use Rattle.std.proofs.Common.{refl, sym, ap, subst, ◌∙◌, inl, inr}
use Rattle.std.proofs.lemmas.Bool.{both_ways}
use Rattle.std.proofs.lemmas.List.Elements.{All-nil, All-cons, All-head, All-tail, All-append, All-weaker}
use Rattle.cm_base.specs.declared.object.Object.{Object}
use Rattle.cm_base.specs.declared.value.Value.TheVariants.{Unset}
use Rattle.cm_types.specs.declared.definition.TypeDef.{TypeDef}
use Rattle.cm_types.specs.declared.property.PropDef.{PropDef}
use Rattle.cm_types.specs.declared.property.Cardinality.{Cardinality}
use Rattle.cm_types.specs.declared.property.Cardinality.TheVariants.{Single, Multi}
use Rattle.cm_types.specs.declared.request.TypeRequest.{TypeRequest}
use Rattle.cm_types.specs.Types.{type_in, longest_chain, types_of, props_of}
use Rattle.cm_types.specs.Properties.{def_of, value_in, value_fault, is_faulty}
use Rattle.cm_types.specs.Changes.{is_before, placed, placed_type, sorted_props, made_props, new_props, changed_type, is_taken_prop, clashes, breaks_prop_rule, breaks_change_rule, changes_texts, changes_flags, changes_mutability, changes_own, changes_old_prop}
use Rattle.cm_types.specs.BaseTypes.{base_types}
use Rattle.cmis_spec.specs.Repository.{Repository}
use Rattle.cmis_spec.specs.Values.{form_value}
use Rattle.cmis_spec.specs.Changes.{with_types}
use Rattle.cmis_spec.specs.Well.{Apart, HasTypes, HasDefs, HasBases, IsRooted, IsTyped, IsKept, IsOwn, OwnsValues, TakesTexts, ends_at_base, IsWellFormed}
use Rattle.cmis_laws.proofs.Lists.{by_test, some_eq, find_yes, find_no, found_holds, found_passes, find_none, all_from_any, all_zip, bytes_turned, none_some}
use Rattle.cmis_laws.proofs.Passed.{not_false, or_left, or_right, some_none}
use Rattle.cmis_laws.proofs.Kept.{bytes_true, bytes_same, every, all_unfound, flat_all, types_all, props_all, faultless, apart_value}
use Rattle.cmis_laws.proofs.TypeSharing.{apart_changed}
use Rattle.type_laws.proofs.Bases.{no_base, not_apart, takes_texts}
use Rattle.type_laws.proofs.Created.{rising_differ}
use Rattle.type_laws.proofs.Definitions.{ArePassed, passed, free_table, defs_placed}
use Rattle.type_laws.proofs.Likeness as alike
use Rattle.type_laws.proofs.Likeness.{IsLike}
use Rattle.type_laws.proofs.Placing.{not_before_itself, found_placed, found_beside, apart_placed, rising_placed, sorted_rise, placed_all, sorted_all}
use Rattle.type_laws.proofs.Retyped.{IsRetyped, retyped_keeps}

-- ---- lists

-- one that is found stands apart from each other one
apart_found : {A : Type 0} (R : A → A → Type 0) (p : A → Bool) (xs : List A) (z : A) → Apart R xs → find p xs ≡ Some z → All (λ y. (y ≡ z) ⊎ (R z y ⊎ R y z)) xs
apart_found R p [] z apart h = absurd (none_some z h)
apart_found R p (x ∷ xs) z apart h = by_test (p x)
    (λ e. let at : x ≡ z = some_eq x z (sym (find_yes p x xs e) ∙ h) in
    All-cons (λ y. (y ≡ z) ⊎ (R z y ⊎ R y z)) x xs (inl at) (All-weaker (R x) (λ y. (y ≡ z) ⊎ (R z y ⊎ R y z)) (λ y k. inr (inl (subst (λ u. R u y) at k))) xs apart.0))
    (λ e. let rest : find p xs ≡ Some z = sym (find_no p x xs e) ∙ h in
    All-cons (λ y. (y ≡ z) ⊎ (R z y ⊎ R y z)) x xs (inr (inr (found_holds (R x) p xs z apart.0 rest))) (apart_found R p xs z apart.1 rest))

-- types of different ids are found by them
all_there : (ts : List TypeDef) → Apart (λ s t. bytes_eq s.id t.id ≡ false) ts → All (λ t. type_in ts t.id ≡ Some t) ts
all_there [] a = All-nil (λ t. type_in [] t.id ≡ Some t)
all_there (t ∷ ts) a = All-cons (λ s. type_in (t ∷ ts) s.id ≡ Some s) t ts (find_yes (λ s. bytes_eq s.id t.id) t ts (bytes_same t.id t.id refl))
    (all_zip (λ s. bytes_eq t.id s.id ≡ false) (λ s. type_in ts s.id ≡ Some s) (λ s. type_in (t ∷ ts) s.id ≡ Some s) ts (λ s d e. find_no (λ u. bytes_eq u.id s.id) t ts d ∙ e) a.0 (all_there ts a.1))

-- what holds of each of two lists that are joined holds of each of both
halves_all : {A : Type 0} (P : A → Type 0) (xs ys : List A) → All P (xs ++ ys) → All P xs × All P ys
halves_all P [] ys all = (All-nil P, all)
halves_all P (x ∷ xs) ys all =
    let rest = halves_all P xs ys (All-tail P x (xs ++ ys) all) in
    (All-cons P x xs (All-head P x (xs ++ ys) all) rest.0, rest.1)

parts_all : {A B : Type 0} (P : B → Type 0) (g : A → List B) (xs : List A) → All P (flat_map g xs) → All (λ x. All P (g x)) xs
parts_all P g [] all = All-nil (λ x. All P (g x))
parts_all P g (x ∷ xs) all =
    let both = halves_all P (g x) (flat_map g xs) all in
    All-cons (λ x. All P (g x)) x xs both.0 (parts_all P g xs both.1)

-- what is not found once the definitions stand in their order was not there
onto_none : (k : List ℕ) (es ds : List PropDef) → find (λ d. bytes_eq d.id k) (fold (λ all d. placed (λ e. e.id) d all) es ds) ≡ None
    → (find (λ d. bytes_eq d.id k) es ≡ None) × (find (λ d. bytes_eq d.id k) ds ≡ None)
onto_none k es [] h = (h, refl)
onto_none k es (d ∷ ds) h =
    let rest = onto_none k (placed (λ e. e.id) d es) ds h in
    by_test (bytes_eq d.id k)
    (λ e. absurd (some_none d (sym (found_placed (λ e. e.id) d k es e) ∙ rest.0)))
    (λ e. (sym (found_beside (λ e. e.id) d k es e) ∙ rest.0, find_no (λ d. bytes_eq d.id k) d ds e ∙ rest.1))

sorted_none : (k : List ℕ) (ds : List PropDef) → All (λ d. bytes_eq d.id k ≡ false) (sorted_props ds) → All (λ d. bytes_eq d.id k ≡ false) ds
sorted_none k ds all = all_unfound (λ d. bytes_eq d.id k) ds (onto_none k [] ds (find_none (λ d. bytes_eq d.id k) (sorted_props ds) all)).1

-- ---- a property that is not required may be unset

unset_right : (d : PropDef) → d.required ≡ false → is_faulty d Unset ≡ false
unset_right d h = faultless d Unset (by d.cardinality refl) (ap (λ b. b && true) h)
  where
    by : (c : Cardinality) → d.cardinality ≡ c → value_fault d Unset ≡ None
    by Single e = rw e refl
    by Multi e = rw e refl

-- ---- the type

module _ (types : List TypeDef) (w : HasTypes types) (q : TypeRequest) (t : TypeDef) (there : type_in types q.id ≡ Some t) (may : not t.mutability.update ≡ false)
    (rule : breaks_change_rule types t q ≡ false) where
  abbrev new : TypeDef
  new = changed_type t q

  abbrev added : List PropDef
  added = made_props (new_props t.properties q.properties)

  abbrev others : List TypeDef
  others = placed_type new types

  abbrev changed : TypeDef → TypeDef
  changed s = if bytes_eq s.id t.id then new else s

  abbrev Good : List ℕ → Type 0
  Good k = Unit {0}

  -- ---- the rule

  abbrev attributes : Bool
  attributes = changes_texts t q || changes_flags t q || changes_mutability t.mutability q.mutability || changes_own t q || list_any (changes_old_prop t.properties) q.properties

  abbrev needs : Bool
  needs = list_any (λ d. d.required) added

  prop_rule : breaks_prop_rule types (new_props t.properties q.properties) ≡ false
  prop_rule = or_right (attributes || needs) (breaks_prop_rule types (new_props t.properties q.properties)) rule

  none_required : All (λ d. d.required ≡ false) added
  none_required = all_from_any (λ d. d.required) added (or_right attributes needs (or_left (attributes || needs) (breaks_prop_rule types (new_props t.properties q.properties)) rule))

  are : ArePassed types added
  are = passed types (new_props t.properties q.properties) prop_rule

  -- ---- look-ups

  own_id : t.id ≡ q.id
  own_id = bytes_true t.id q.id (found_passes (λ s. bytes_eq s.id q.id) types t there)

  t_there : type_in types t.id ≡ Some t
  t_there = ap (type_in types) own_id ∙ there

  one : (k : List ℕ) (s : TypeDef) → type_in types k ≡ Some s → bytes_eq s.id t.id ≡ true → s ≡ t
  one k s e h = some_eq s t (sym e ∙ (ap (type_in types) (sym (bytes_true s.id k (found_passes (λ u. bytes_eq u.id k) types s e)) ∙ bytes_true s.id t.id h) ∙ t_there))

  changed_t : changed t ≡ new
  changed_t = ap (λ b. if b then new else t) (bytes_same t.id t.id refl)

  changed_other : (s : TypeDef) → bytes_eq s.id t.id ≡ false → changed s ≡ s
  changed_other s h = ap (λ b. if b then new else s) h

  kept_by : {B : Type 0} (g : TypeDef → B) → g new ≡ g t → (k : List ℕ) (s : TypeDef) → type_in types k ≡ Some s → g (changed s) ≡ g s
  kept_by g same k s e = by_test (bytes_eq s.id t.id)
      (λ h. ap (λ b. g (if b then new else s)) h ∙ (same ∙ ap g (sym (one k s e h))))
      (λ h. ap g (changed_other s h))

  found_changed : (k : List ℕ) → type_in others k ≡ option_map changed (type_in types k)
  found_changed k = by_test (bytes_eq t.id k)
      (λ h. found_placed (λ s. s.id) new k types h
      ∙ sym (ap (λ i. option_map changed (type_in types i)) (sym (bytes_true t.id k h)) ∙ (ap (option_map changed) t_there ∙ ap Some changed_t)))
      (λ h. found_beside (λ s. s.id) new k types h ∙ by (type_in types k) refl h)
    where
      by : (o : Option TypeDef) → type_in types k ≡ o → bytes_eq t.id k ≡ false → o ≡ option_map changed o
      by None e h = refl
      by (Some s) e h = ap Some (sym (changed_other s (ap (λ i. bytes_eq i t.id) (bytes_true s.id k (found_passes (λ u. bytes_eq u.id k) types s e)) ∙ bytes_turned t.id k h)))

  pub like : IsLike types others changed Good
  like = record {
    found = λ k good. found_changed k;
    above = λ k s p good e h. tt;
    parent_same = λ k s good e. kept_by (λ u. u.parent) refl k s e;
    base_same = λ k s good e. kept_by (λ u. u.base) refl k s e;
    versionable_same = λ k s good e. kept_by (λ u. u.versionable) refl k s e;
    id_same = λ s. by_test (bytes_eq s.id t.id) (λ h. ap (λ b. (if b then new else s).id) h ∙ sym (bytes_true s.id t.id h)) (λ h. ap (λ u. u.id) (changed_other s h));
  }

  -- ---- the list

  bases_stay : HasBases others
  unfolding HasBases
  bases_stay = all_zip (λ b. bytes_eq b.id t.id ≡ false) (λ b. type_in types b.id ≡ Some b) (λ b. type_in others b.id ≡ Some b) base_types
      (λ b n h. found_beside (λ s. s.id) new b.id types (bytes_turned b.id t.id n) ∙ h)
      (no_base types w.3 t.id t t_there (λ f. both_ways t.mutability.update f.0 (not_false t.mutability.update may))) w.3

  abbrev Names : TypeDef → TypeDef → Type 0
  Names s u = bytes_eq s.query_name u.query_name ≡ false

  fits : (s : TypeDef) → (s ≡ t) ⊎ (Names t s ⊎ Names s t) → (is_before s.id t.id ≡ true → Names s new) × (is_before t.id s.id ≡ true → Names new s)
  fits s (inl e) = (
    (λ h. absurd (both_ways (is_before t.id t.id) (not_before_itself t.id) (subst (λ u. is_before u.id t.id ≡ true) e h))),
    (λ h. absurd (both_ways (is_before t.id t.id) (not_before_itself t.id) (subst (λ u. is_before t.id u.id ≡ true) e h))),
  )
  fits s (inr (inl n)) = ((λ _. bytes_turned t.query_name s.query_name n), (λ _. n))
  fits s (inr (inr n)) = ((λ _. n), (λ _. bytes_turned s.query_name t.query_name n))

  pub types_keep : HasTypes others
  types_keep =
      let rise = rising_placed (λ s. s.id) new types w.5 in (
        rising_differ others rise,
        apart_placed (λ s. s.id) new Names types (λ a b l m h. bytes_turned b.query_name a.query_name h)
            (All-weaker (λ s. (s ≡ t) ⊎ (Names t s ⊎ Names s t)) (λ s. (is_before s.id t.id ≡ true → Names s new) × (is_before t.id s.id ≡ true → Names new s)) fits types
            (apart_found Names (λ s. bytes_eq s.id q.id) types t w.1 there)) w.1,
        placed_all (λ s. ends_at_base longest_chain others s.id ≡ true) (λ s. s.id) new types
            (alike.ends_like types others changed Good like longest_chain t.id tt ∙ found_holds (λ s. ends_at_base longest_chain types s.id ≡ true) (λ s. bytes_eq s.id q.id) types t w.2 there)
            (All-weaker (λ s. ends_at_base longest_chain types s.id ≡ true) (λ s. ends_at_base longest_chain others s.id ≡ true)
            (λ s h. alike.ends_like types others changed Good like longest_chain s.id tt ∙ h) types w.2),
        bases_stay,
        placed_all (IsRooted others) (λ s. s.id) new types (alike.top_like types others changed Good like t.id tt ∙ found_holds (IsRooted types) (λ s. bytes_eq s.id q.id) types t w.4 there)
            (All-weaker (IsRooted types) (IsRooted others) (λ s h. alike.top_like types others changed Good like s.id tt ∙ h) types w.4),
        rise,
        placed_all (λ s. Apart (λ d e. slice_cmp nat_cmp d.id e.id ≡ Less) s.properties) (λ s. s.id) new types (sorted_rise (t.properties ++ added)) w.6,
        apart_changed types t q w.7 there prop_rule,
      )

  pub defs_keep : HasDefs types → HasDefs others
  defs_keep has = defs_placed types new t.properties added has are
      (All-weaker (λ d. is_taken_prop types d ≡ false) TakesTexts (takes_texts types w.3) added are.free) refl
      (λ Q all. found_holds (λ s. All Q s.properties) (λ s. bytes_eq s.id q.id) types t all there)

  -- ---- the properties of an object

  abbrev OnlyT : TypeDef → Type 0
  OnlyT s = bytes_eq s.id t.id ≡ true → s ≡ t

  only : All OnlyT types
  only = All-weaker (λ s. type_in types s.id ≡ Some s) OnlyT (λ s e h. one s.id s e h) types (all_there types w.0)

  -- what holds of what it had, and of what is new, holds of what it has
  more_props : (P : PropDef → Type 0) (ts : List TypeDef) → All OnlyT ts → All P added → All P (flat_map (λ s. s.properties) ts) → All P (flat_map (λ s. (changed s).properties) ts)
  more_props P ts onlys news all = flat_all P (λ s. (changed s).properties) ts
      (all_zip (λ s. All P s.properties) OnlyT (λ s. All P (changed s).properties) ts
      (λ s a o. by_test (bytes_eq s.id t.id)
      (λ h. subst (λ b. All P (if b then new else s).properties) (sym h) (sorted_all P (t.properties ++ added) (All-append P t.properties added (subst (λ u. All P u.properties) (o h) a) news)))
      (λ h. subst (λ b. All P (if b then new else s).properties) (sym h) a)) (parts_all P (λ s. s.properties) ts all) onlys)

  -- a property that it had it has
  still_defined : (k : List ℕ) (ts : List TypeDef) → All OnlyT ts → is_some (def_of (flat_map (λ s. s.properties) ts) k) ≡ true → is_some (def_of (flat_map (λ s. (changed s).properties) ts) k) ≡ true
  still_defined k ts onlys h = elim (def_of (flat_map (λ s. (changed s).properties) ts) k) as (λ o. def_of (flat_map (λ s. (changed s).properties) ts) k ≡ o → is_some o ≡ true) [
    | Some d ↦ λ e. refl
    | None ↦ λ e.
        let parts = parts_all (λ d. bytes_eq d.id k ≡ false) (λ s. (changed s).properties) ts (all_unfound (λ d. bytes_eq d.id k) (flat_map (λ s. (changed s).properties) ts) e) in
        let before : All (λ d. bytes_eq d.id k ≡ false) (flat_map (λ s. s.properties) ts) = flat_all (λ d. bytes_eq d.id k ≡ false) (λ s. s.properties) ts
        (all_zip (λ s. All (λ d. bytes_eq d.id k ≡ false) (changed s).properties) OnlyT (λ s. All (λ d. bytes_eq d.id k ≡ false) s.properties) ts
        (λ s a o. by_test (bytes_eq s.id t.id)
        (λ i. subst (λ u. All (λ d. bytes_eq d.id k ≡ false) u.properties) (sym (o i))
        (halves_all (λ d. bytes_eq d.id k ≡ false) t.properties added
        (sorted_none k (t.properties ++ added) (subst (λ b. All (λ d. bytes_eq d.id k ≡ false) (if b then new else s).properties) i a))).0)
        (λ i. subst (λ b. All (λ d. bytes_eq d.id k ≡ false) (if b then new else s).properties) i a)) parts onlys) in
        absurd (both_ways false refl (sym (ap is_some (find_none (λ d. bytes_eq d.id k) (flat_map (λ s. s.properties) ts) before)) ∙ h))
  ] refl

  -- what is new is unset
  unset : (x : Object) (d : PropDef) → is_taken_prop types d ≡ false → OwnsValues types x → value_in x.values d.id ≡ Unset
  unset x d free owned =
      let apart : All (λ (s : TypeDef). All (λ (e : PropDef). bytes_eq e.id d.id ≡ false) s.properties) types =
      All-weaker (λ (s : TypeDef). All (λ (e : PropDef). clashes d e ≡ false) s.properties) (λ (s : TypeDef). All (λ (e : PropDef). bytes_eq e.id d.id ≡ false) s.properties)
      (λ s. All-weaker (λ (e : PropDef). clashes d e ≡ false) (λ (e : PropDef). bytes_eq e.id d.id ≡ false)
      (λ e h. bytes_turned d.id e.id (or_left (bytes_eq d.id e.id) (bytes_eq d.query_name e.query_name) h)) s.properties) types
      (All-head (λ d. All (λ (s : TypeDef). All (λ (e : PropDef). clashes d e ≡ false) s.properties) types) d []
      (free_table types (d ∷ []) (All-cons (λ d. is_taken_prop types d ≡ false) d [] free (All-nil (λ d. is_taken_prop types d ≡ false))))) in
      let undefined : def_of (props_of types x.kind x.secondary) d.id ≡ None =
      find_none (λ e. bytes_eq e.id d.id) (props_of types x.kind x.secondary) (props_all (λ e. bytes_eq e.id d.id ≡ false) types x.kind x.secondary apart) in
      ap (λ o. unwrap_or (option_map (λ s. s.value) o) Unset) (find_none (λ s. bytes_eq s.id d.id) x.values
      (All-weaker (IsOwn types x) (λ s. bytes_eq s.id d.id ≡ false)
      (λ s h. by_test (bytes_eq s.id d.id)
      (λ e. absurd (both_ways false refl (sym (ap is_some (ap (def_of (props_of types x.kind x.secondary)) (bytes_true s.id d.id e) ∙ undefined)) ∙ h)))
      (λ e. e)) x.values owned.0))

  new_kept : (r : Repository) (x : Object) → OwnsValues types x → All (λ d. is_faulty d (form_value r x d.id) ≡ false) added
  new_kept r x owned = all_zip (λ d. is_taken_prop types d ≡ false) (λ d. d.required ≡ false) (λ d. is_faulty d (form_value r x d.id) ≡ false) added
      (λ d free n. ap (is_faulty d) (apart_value r x d.id (not_apart types w.3 d free) ∙ unset x d free owned) ∙ unset_right d n) are.free none_required

  pub props_changed : (x : Object) → props_of others x.kind x.secondary ≡ flat_map (λ s. (changed s).properties) (types_of types x.kind x.secondary)
  props_changed x = alike.props_like types others changed Good like x.kind x.secondary tt (every Good x.secondary (λ _. tt))

  only_of : (x : Object) → All OnlyT (types_of types x.kind x.secondary)
  only_of x = types_all OnlyT types x.kind x.secondary only

  pub kept_stays : (r : Repository) (x : Object) → OwnsValues types x → IsKept r (props_of types x.kind x.secondary) x → IsKept r (props_of others x.kind x.secondary) x
  kept_stays r x owned kept = subst (λ ds. IsKept r ds x) (sym (props_changed x))
      (more_props (λ d. is_faulty d (form_value r x d.id) ≡ false) (types_of types x.kind x.secondary) (only_of x) (new_kept r x owned) kept)

  pub owned_stays : (x : Object) → OwnsValues types x → OwnsValues others x
  owned_stays x owned = (
    All-weaker (IsOwn types x) (IsOwn others x)
        (λ s h. subst (λ ds. is_some (def_of ds s.id) ≡ true) (sym (props_changed x)) (still_defined s.id (types_of types x.kind x.secondary) (only_of x) h)) x.values owned.0,
    owned.1,
  )

-- ---- the repository

pub changed_retypes : (r : Repository) (q : TypeRequest) (t : TypeDef) → IsWellFormed r → type_in r.types q.id ≡ Some t → not t.mutability.update ≡ false → breaks_change_rule r.types t q ≡ false
    → All (IsRetyped r (placed_type (changed_type t q) r.types)) r.objects
changed_retypes r q t w there may rule =
    let others = placed_type (changed_type t q) r.types in
    let l = like r.types w.types q t there may rule in
    let f : TypeDef → TypeDef = λ s. if bytes_eq s.id t.id then changed_type t q else s in
    all_zip (IsTyped r.types) (λ x. IsKept r (props_of r.types x.kind x.secondary) x × OwnsValues r.types x) (IsRetyped r others) r.objects
    (λ x y k. record {
      base = λ b. alike.base_like r.types others f (λ _. Unit {0}) l b x.kind tt;
      versionable = alike.versionable_like r.types others f (λ _. Unit {0}) l x.kind tt;
      typed = alike.typed_like r.types others f (λ _. Unit {0}) l x tt (every (λ _. Unit {0}) x.secondary (λ _. tt)) y;
      kept = kept_stays r.types w.types q t there may rule r x k.1 k.0;
      owned = owned_stays r.types w.types q t there may rule x k.1;
    }) w.typed
    (all_zip (λ x. IsKept r (props_of r.types x.kind x.secondary) x) (OwnsValues r.types) (λ x. IsKept r (props_of r.types x.kind x.secondary) x × OwnsValues r.types x) r.objects (λ x a b. (a, b)) w.kept w.own_values)

pub changed_keeps : (r : Repository) (q : TypeRequest) (t : TypeDef) → IsWellFormed r → type_in r.types q.id ≡ Some t → not t.mutability.update ≡ false → breaks_change_rule r.types t q ≡ false
    → IsWellFormed (with_types r (placed_type (changed_type t q) r.types))
changed_keeps r q t w there may rule = retyped_keeps r (placed_type (changed_type t q) r.types) w (changed_retypes r q t w there may rule)
    (types_keep r.types w.types q t there may rule) (defs_keep r.types w.types q t there may rule w.defs)
