-- A type is made: the list of types stays well formed, and objects are what they were.
use Rattle.std.specs.Prelude.{◌≡◌, ℕ, zero, suc, ◌≤◌, ◌<◌, nat_le, Bool, true, false, not, ◌||◌, List, [], ◌∷◌, length, All, Option, Some, None, is_some, option_map, option_and_then, unwrap_or, bytes_eq, codes}
use Rattle.std.specs.List.{list_any}
use Rattle.core.specs.Ordering.{nat_cmp}
use Rattle.core.specs.Cmp.Lexicographic.{slice_cmp}
use Rattle.core.specs.declared.cmp.Ordering.TheVariants.{Less}
use Rattle.std.proofs.Common.{refl, sym, ap, subst, ◌∙◌, arith}
use Rattle.std.proofs.lemmas.Bool.{both_ways, leb-false}
use Rattle.std.proofs.lemmas.Iterator.Adapters.{option_map_id}
use Rattle.std.proofs.lemmas.Map.Text.{is_eq-slice_cmp}
use Rattle.core.specs.Ordering.{is_eq}
use Rattle.std.proofs.lemmas.List.{map-id}
use Rattle.std.proofs.lemmas.List.Elements.{All-nil, All-weaker}
use Rattle.cm_base.specs.declared.object.Object.{Object}
use Rattle.cm_types.specs.declared.definition.TypeDef.{TypeDef}
use Rattle.cm_types.specs.declared.request.TypeRequest.{TypeRequest}
use Rattle.cm_types.specs.Types.{type_in, chain_of, chain, longest_chain, is_below, props_of}
use Rattle.cm_types.specs.Properties.{def_of}
use Rattle.cm_types.specs.Changes.{is_before, base_id, text_or, is_taken, is_taken_prop, breaks_type_rule, breaks_attribute_rule, breaks_prop_rule, made_type, made_props, placed_type}
use Rattle.cm_types.specs.BaseTypes.{base_types}
use Rattle.cmis_spec.specs.Repository.{Repository, last_of}
use Rattle.cmis_spec.specs.Changes.{with_types}
use Rattle.cmis_spec.specs.Well.{Apart, HasTypes, HasDefs, HasBases, IsRooted, IsTyped, IsKept, IsOwn, OwnsValues, TakesTexts, ends_at_base, IsWellFormed}
use Rattle.cmis_laws.proofs.Lists.{by_test, found_holds, found_passes, find_none, all_from_any, all_zip, apart_weaker, bytes_turned}
use Rattle.cmis_laws.proofs.Passed.{or_left, or_right, and_then_some}
use Rattle.cmis_laws.proofs.Kept.{bytes_true, bytes_same, every}
use Rattle.cmis_laws.proofs.TypeSharing.{apart_with}
use Rattle.type_laws.proofs.Bases.{takes_texts}
use Rattle.type_laws.proofs.Definitions.{passed, defs_placed}
use Rattle.type_laws.proofs.Likeness as alike
use Rattle.type_laws.proofs.Likeness.{IsLike, last_after}
use Rattle.type_laws.proofs.Placing.{found_placed, found_beside, apart_placed, rising_placed, sorted_rise, placed_all}
use Rattle.type_laws.proofs.Retyped.{IsRetyped, retyped_keeps}

-- ---- chains

pub ends_there : (n : ℕ) (types : List TypeDef) (k : List ℕ) → ends_at_base n types k ≡ true → is_some (type_in types k) ≡ true
ends_there zero types k h = absurd (both_ways false refl h)
ends_there (suc n) types k h = by (type_in types k) h
  where
    by : (o : Option TypeDef) → unwrap_or (option_map (λ t. unwrap_or (option_map (ends_at_base n types) t.parent) true) o) false ≡ true → is_some o ≡ true
    by None h = absurd (both_ways false refl h)
    by (Some t) h = refl

-- where a chain ends at a base, so does that of the parent
ends_closed : (n : ℕ) (types : List TypeDef) (k p : List ℕ) (s : TypeDef) → type_in types k ≡ Some s → s.parent ≡ Some p → ends_at_base n types k ≡ true → is_some (type_in types p) ≡ true
ends_closed zero types k p s there above h = absurd (both_ways false refl h)
ends_closed (suc n) types k p s there above h = ends_there n types p
    (sym (ap (λ o. unwrap_or (option_map (λ t. unwrap_or (option_map (ends_at_base n types) t.parent) true) o) false) there
    ∙ ap (λ o. unwrap_or (option_map (ends_at_base n types) o) true) above) ∙ h)

pub below_there : (n : ℕ) (p : TypeDef → Bool) (types : List TypeDef) (k : List ℕ) → list_any p (chain_of n types k) ≡ true → is_some (type_in types k) ≡ true
below_there zero p types k h = absurd (both_ways false refl h)
below_there (suc n) p types k h = by (type_in types k) h
  where
    by : (o : Option TypeDef) → list_any p (unwrap_or (option_map (λ t. t ∷ unwrap_or (option_map (chain_of n types) t.parent) []) o) []) ≡ true → is_some o ≡ true
    by None h = absurd (both_ways false refl h)
    by (Some t) h = refl

-- a chain of fewer types than may be is the same with one fewer
record IsShort (types : List TypeDef) (n : ℕ) (k : List ℕ) : Type 0 where
  ends : ends_at_base n types k ≡ true
  same : chain_of n types k ≡ chain_of (suc n) types k

nothing_there : (n : ℕ) (types : List TypeDef) (k : List ℕ) → type_in types k ≡ None → ends_at_base (suc n) types k ≡ true → ⊥
nothing_there n types k e h = both_ways false refl (sym (ap (λ o. unwrap_or (option_map (λ t. unwrap_or (option_map (ends_at_base n types) t.parent) true) o) false) e) ∙ h)

shorter : (n : ℕ) (types : List TypeDef) (k : List ℕ) → ends_at_base (suc n) types k ≡ true → length (chain_of (suc n) types k) ≤ n → IsShort types n k
shorter zero types k h l = elim (type_in types k) as (λ o. type_in types k ≡ o → IsShort types zero k) [
  | None ↦ λ e. absurd (nothing_there zero types k e h)
  | Some s ↦ λ e.
      let long : length (chain_of (suc zero) types k) ≡ length (s ∷ unwrap_or (option_map (chain_of zero types) s.parent) []) =
      ap (λ o. length (unwrap_or (option_map (λ t. t ∷ unwrap_or (option_map (chain_of zero types) t.parent) []) o) [])) e in
      absurd (omega (arith, long, l))
] refl
shorter (suc n) types k h l = elim (type_in types k) as (λ o. type_in types k ≡ o → IsShort types (suc n) k) [
  | None ↦ λ e. absurd (nothing_there (suc n) types k e h)
  | Some s ↦ λ e. by s e s.parent refl (λ p. shorter n types p)
] refl
  where
    by : (s : TypeDef) → type_in types k ≡ Some s → (o : Option (List ℕ)) → s.parent ≡ o
        → ((p : List ℕ) → ends_at_base (suc n) types p ≡ true → length (chain_of (suc n) types p) ≤ n → IsShort types n p) → IsShort types (suc n) k
    by s e None f up = record {
      ends = ap (λ o. unwrap_or (option_map (λ t. unwrap_or (option_map (ends_at_base n types) t.parent) true) o) false) e ∙ ap (λ o. unwrap_or (option_map (ends_at_base n types) o) true) f;
      same =
          (ap (λ o. unwrap_or (option_map (λ t. t ∷ unwrap_or (option_map (chain_of n types) t.parent) []) o) []) e ∙ ap (λ o. s ∷ unwrap_or (option_map (chain_of n types) o) []) f)
          ∙ sym (ap (λ o. unwrap_or (option_map (λ t. t ∷ unwrap_or (option_map (chain_of (suc n) types) t.parent) []) o) []) e ∙ ap (λ o. s ∷ unwrap_or (option_map (chain_of (suc n) types) o) []) f);
    }
    by s e (Some p) f up =
        let long : length (chain_of (suc (suc n)) types k) ≡ suc (length (chain_of (suc n) types p)) =
        ap (λ o. length (unwrap_or (option_map (λ t. t ∷ unwrap_or (option_map (chain_of (suc n) types) t.parent) []) o) [])) e
        ∙ ap (λ o. length (s ∷ unwrap_or (option_map (chain_of (suc n) types) o) [])) f in
        let ends_p : ends_at_base (suc n) types p ≡ true =
        sym (ap (λ o. unwrap_or (option_map (λ t. unwrap_or (option_map (ends_at_base (suc n) types) t.parent) true) o) false) e
        ∙ ap (λ o. unwrap_or (option_map (ends_at_base (suc n) types) o) true) f) ∙ h in
        let short = up p ends_p (omega (arith, long, l)) in
        record {
          ends = (ap (λ o. unwrap_or (option_map (λ t. unwrap_or (option_map (ends_at_base n types) t.parent) true) o) false) e
              ∙ ap (λ o. unwrap_or (option_map (ends_at_base n types) o) true) f) ∙ short.ends;
          same =
              (ap (λ o. unwrap_or (option_map (λ t. t ∷ unwrap_or (option_map (chain_of n types) t.parent) []) o) []) e ∙ ap (λ o. s ∷ unwrap_or (option_map (chain_of n types) o) []) f)
              ∙ (ap (λ c. s ∷ c) short.same
              ∙ sym (ap (λ o. unwrap_or (option_map (λ t. t ∷ unwrap_or (option_map (chain_of (suc n) types) t.parent) []) o) []) e ∙ ap (λ o. s ∷ unwrap_or (option_map (chain_of (suc n) types) o) []) f));
        }

-- ---- objects whose types are the same in both lists

pub less_differ : (xs ys : List ℕ) → slice_cmp nat_cmp xs ys ≡ Less → bytes_eq xs ys ≡ false
less_differ xs ys h = sym (is_eq-slice_cmp xs ys) ∙ ap is_eq h

-- types in byte order differ in their ids
pub rising_differ : (types : List TypeDef) → Apart (λ s t. slice_cmp nat_cmp s.id t.id ≡ Less) types → Apart (λ s t. bytes_eq s.id t.id ≡ false) types
rising_differ types rise = apart_weaker (λ _. Unit {0}) (λ s t. slice_cmp nat_cmp s.id t.id ≡ Less) (λ s t. bytes_eq s.id t.id ≡ false) types
    (λ s t a b h. less_differ s.id t.id h) (every (λ _. Unit {0}) types (λ _. tt)) rise

pub same_retyped : (r : Repository) (others : List TypeDef) (Good : List ℕ → Type 0) → IsLike r.types others (λ t. t) Good → (x : Object) → Good x.kind → All Good x.secondary
    → IsTyped r.types x → IsKept r (props_of r.types x.kind x.secondary) x → OwnsValues r.types x → IsRetyped r others x
same_retyped r others Good l x good goods typed kept owned =
    let same : props_of others x.kind x.secondary ≡ props_of r.types x.kind x.secondary = alike.props_like r.types others (λ t. t) Good l x.kind x.secondary good goods in
    record {
      base = λ b. alike.base_like r.types others (λ t. t) Good l b x.kind good;
      versionable = alike.versionable_like r.types others (λ t. t) Good l x.kind good;
      typed = alike.typed_like r.types others (λ t. t) Good l x good goods typed;
      kept = subst (λ ds. IsKept r ds x) (sym same) kept;
      owned = (All-weaker (IsOwn r.types x) (IsOwn others x) (λ s h. subst (λ ds. is_some (def_of ds s.id) ≡ true) (sym same) h) x.values owned.0, owned.1);
    }

-- ---- the type

module _ (types : List TypeDef) (w : HasTypes types) (parent : TypeDef) (q : TypeRequest) (untaken : is_taken types q ≡ false)
    (there : option_and_then (type_in types) q.parent ≡ Some parent) (rule : breaks_type_rule types parent q ≡ false) where
  abbrev new : TypeDef
  new = made_type parent q

  abbrev others : List TypeDef
  others = placed_type new types

  abbrev Good : List ℕ → Type 0
  Good k = is_some (type_in types k) ≡ true

  unlike : All (λ t. (bytes_eq t.id q.id || bytes_eq t.query_name (text_or q.id q.query_name)) ≡ false) types
  unlike = all_from_any (λ t. bytes_eq t.id q.id || bytes_eq t.query_name (text_or q.id q.query_name)) types untaken

  not_there : type_in types q.id ≡ None
  not_there = find_none (λ t. bytes_eq t.id q.id) types
      (All-weaker (λ t. (bytes_eq t.id q.id || bytes_eq t.query_name (text_or q.id q.query_name)) ≡ false) (λ t. bytes_eq t.id q.id ≡ false)
      (λ t. or_left (bytes_eq t.id q.id) (bytes_eq t.query_name (text_or q.id q.query_name))) types unlike)

  other_id : (k : List ℕ) → Good k → bytes_eq q.id k ≡ false
  other_id k good = by_test (bytes_eq q.id k)
      (λ e. absurd (both_ways false refl (sym (ap is_some (ap (type_in types) (sym (bytes_true q.id k e)) ∙ not_there)) ∙ good)))
      (λ e. e)

  good_parent : (k : List ℕ) (s : TypeDef) (p : List ℕ) → type_in types k ≡ Some s → s.parent ≡ Some p → Good p
  good_parent k s p e h = ends_closed longest_chain types k p s e h
      (subst (λ i. ends_at_base longest_chain types i ≡ true) (bytes_true s.id k (found_passes (λ t. bytes_eq t.id k) types s e))
      (found_holds (λ t. ends_at_base longest_chain types t.id ≡ true) (λ t. bytes_eq t.id k) types s w.2 e))

  pub like : IsLike types others (λ t. t) Good
  like = record {
    found = λ k good. found_beside (λ s. s.id) new k types (other_id k good) ∙ sym (option_map_id (type_in types k));
    above = λ k s p good e h. good_parent k s p e h;
    parent_same = λ k s good e. refl;
    base_same = λ k s good e. refl;
    versionable_same = λ k s good e. refl;
    id_same = λ s. refl;
  }

  all_good : All (λ t. Good t.id) types
  all_good = All-weaker (λ t. ends_at_base longest_chain types t.id ≡ true) (λ t. Good t.id) (λ t. ends_there longest_chain types t.id) types w.2

  new_there : type_in others q.id ≡ Some new
  new_there = found_placed (λ s. s.id) new q.id types (bytes_same q.id q.id refl)

  parent_there : type_in types parent.id ≡ Some parent
  parent_there =
      let at = and_then_some (type_in types) q.parent parent there in
      subst (λ i. type_in types i ≡ Some parent) (sym (bytes_true parent.id at.0 (found_passes (λ t. bytes_eq t.id at.0) types parent at.2))) at.2

  parent_good : Good parent.id
  parent_good = ap is_some parent_there

  parent_ends : ends_at_base longest_chain types parent.id ≡ true
  parent_ends = found_holds (λ t. ends_at_base longest_chain types t.id ≡ true) (λ t. bytes_eq t.id parent.id) types parent w.2 parent_there

  -- ---- the rule

  abbrev other_base : Bool
  other_base = not (bytes_eq (base_id parent.base) q.base)

  abbrev full : Bool
  full = nat_le longest_chain (length (chain types parent.id))

  room_above : full ≡ false
  room_above = or_right other_base full
      (or_left (other_base || full) (breaks_attribute_rule parent q)
      (or_left (other_base || full || breaks_attribute_rule parent q) (breaks_prop_rule types q.properties) rule))

  prop_rule : breaks_prop_rule types q.properties ≡ false
  prop_rule = or_right (other_base || full || breaks_attribute_rule parent q) (breaks_prop_rule types q.properties) rule

  -- ---- its chain

  new_chain : (m : ℕ) → ends_at_base m types parent.id ≡ true → length (chain_of m types parent.id) < m
      → (ends_at_base m others q.id ≡ true) × (chain_of m others q.id ≡ new ∷ chain_of m types parent.id)
  new_chain zero ends short = absurd (both_ways false refl ends)
  new_chain (suc n) ends short =
      let s = shorter n types parent.id ends (omega (arith, short)) in (
        ap (λ o. unwrap_or (option_map (λ t. unwrap_or (option_map (ends_at_base n others) t.parent) true) o) false) new_there
            ∙ (alike.ends_like types others (λ t. t) Good like n parent.id parent_good ∙ s.ends),
        ap (λ o. unwrap_or (option_map (λ t. t ∷ unwrap_or (option_map (chain_of n others) t.parent) []) o) []) new_there
            ∙ ap (λ c. new ∷ c) (alike.chain_like types others (λ t. t) Good like n parent.id parent_good ∙ (map-id (chain_of n types parent.id) ∙ s.same)),
      )

  new_in : (ends_at_base longest_chain others q.id ≡ true) × (chain others q.id ≡ new ∷ chain types parent.id)
  new_in = new_chain longest_chain parent_ends (leb-false longest_chain (length (chain types parent.id)) room_above)

  some_above : (n : ℕ) → ends_at_base n types parent.id ≡ true → list_any (λ s. true) (chain_of n types parent.id) ≡ true
  some_above zero h = absurd (both_ways false refl h)
  some_above (suc n) h = ap (λ o. list_any (λ s. true) (unwrap_or (option_map (λ t. t ∷ unwrap_or (option_map (chain_of n types) t.parent) []) o) [])) parent_there

  new_rooted : IsRooted others new
  new_rooted =
      ap (λ c. option_map (λ b. b.id) (last_of c)) new_in.1
      ∙ (ap (option_map (λ b. b.id)) (last_after new (chain types parent.id) (some_above longest_chain parent_ends))
      ∙ found_holds (IsRooted types) (λ t. bytes_eq t.id parent.id) types parent w.4 parent_there)

  bases_stay : HasBases others
  unfolding HasBases
  bases_stay = All-weaker (λ b. type_in types b.id ≡ Some b) (λ b. type_in others b.id ≡ Some b)
      (λ b h. like.found b.id (ap is_some h) ∙ ap (option_map (λ t. t)) h) base_types w.3

  pub types_keep : HasTypes others
  types_keep =
      let rise = rising_placed (λ s. s.id) new types w.5 in (
        rising_differ others rise,
        apart_placed (λ s. s.id) new (λ s t. bytes_eq s.query_name t.query_name ≡ false) types (λ a b l m h. bytes_turned b.query_name a.query_name h)
            (All-weaker (λ t. (bytes_eq t.id q.id || bytes_eq t.query_name (text_or q.id q.query_name)) ≡ false)
            (λ t. (is_before t.id q.id ≡ true → bytes_eq t.query_name new.query_name ≡ false) × (is_before q.id t.id ≡ true → bytes_eq new.query_name t.query_name ≡ false))
            (λ t h. let k : bytes_eq t.query_name new.query_name ≡ false = or_right (bytes_eq t.id q.id) (bytes_eq t.query_name new.query_name) h in
            ((λ _. k), (λ _. bytes_turned t.query_name new.query_name k))) types unlike) w.1,
        placed_all (λ t. ends_at_base longest_chain others t.id ≡ true) (λ s. s.id) new types new_in.0
            (all_zip (λ t. Good t.id) (λ t. ends_at_base longest_chain types t.id ≡ true) (λ t. ends_at_base longest_chain others t.id ≡ true) types
            (λ t good h. alike.ends_like types others (λ t. t) Good like longest_chain t.id good ∙ h) all_good w.2),
        bases_stay,
        placed_all (IsRooted others) (λ s. s.id) new types new_rooted
            (all_zip (λ t. Good t.id) (IsRooted types) (IsRooted others) types (λ t good h. alike.top_like types others (λ t. t) Good like t.id good ∙ h) all_good w.4),
        rise,
        placed_all (λ t. Apart (λ d e. slice_cmp nat_cmp d.id e.id ≡ Less) t.properties) (λ s. s.id) new types (sorted_rise (made_props q.properties)) w.6,
        apart_with types parent q w.7 prop_rule,
      )

  pub defs_keep : HasDefs types → HasDefs others
  defs_keep has =
      let are = passed types q.properties prop_rule in
      defs_placed types new [] (made_props q.properties) has are
      (All-weaker (λ d. is_taken_prop types d ≡ false) TakesTexts (takes_texts types w.3) (made_props q.properties) are.free) refl (λ Q all. All-nil Q)

-- ---- the repository

pub created_retypes : (r : Repository) (parent : TypeDef) (q : TypeRequest) → IsWellFormed r → is_taken r.types q ≡ false → option_and_then (type_in r.types) q.parent ≡ Some parent
    → breaks_type_rule r.types parent q ≡ false → All (IsRetyped r (placed_type (made_type parent q) r.types)) r.objects
created_retypes r parent q w untaken there rule =
    all_zip (IsTyped r.types) (λ x. IsKept r (props_of r.types x.kind x.secondary) x × OwnsValues r.types x) (IsRetyped r (placed_type (made_type parent q) r.types)) r.objects
    (λ x t k. same_retyped r (placed_type (made_type parent q) r.types) (λ k. is_some (type_in r.types k) ≡ true) (like r.types w.types parent q untaken there rule) x t.0
    (All-weaker (λ s. is_below r.types s (codes "cmis:secondary") ≡ true) (λ s. is_some (type_in r.types s) ≡ true)
    (λ s. below_there longest_chain (λ t. bytes_eq t.id (codes "cmis:secondary")) r.types s) x.secondary t.1) t k.0 k.1) w.typed
    (all_zip (λ x. IsKept r (props_of r.types x.kind x.secondary) x) (OwnsValues r.types) (λ x. IsKept r (props_of r.types x.kind x.secondary) x × OwnsValues r.types x) r.objects (λ x a b. (a, b)) w.kept w.own_values)

pub created_keeps : (r : Repository) (parent : TypeDef) (q : TypeRequest) → IsWellFormed r → is_taken r.types q ≡ false → option_and_then (type_in r.types) q.parent ≡ Some parent
    → breaks_type_rule r.types parent q ≡ false → IsWellFormed (with_types r (placed_type (made_type parent q) r.types))
created_keeps r parent q w untaken there rule = retyped_keeps r (placed_type (made_type parent q) r.types) w (created_retypes r parent q w untaken there rule)
    (types_keep r.types w.types parent q untaken there rule) (defs_keep r.types w.types parent q untaken there rule w.defs)
