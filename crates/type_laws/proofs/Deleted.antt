-- A type that nothing is of is removed: the list of types stays well formed, and objects are what they were.
use Rattle.std.specs.Prelude.{◌≡◌, ℕ, true, false, not, List, All, Some, option_map, unwrap_or, bytes_eq}
use Rattle.std.specs.List.{list_any}
use Rattle.core.specs.Ordering.{nat_cmp}
use Rattle.core.specs.Cmp.Lexicographic.{slice_cmp}
use Rattle.core.specs.declared.cmp.Ordering.TheVariants.{Less}
use Rattle.std.proofs.Common.{refl, sym, ap, subst, ◌∙◌}
use Rattle.std.proofs.lemmas.Bool.{both_ways}
use Rattle.std.proofs.lemmas.Iterator.Adapters.{option_map_id}
use Rattle.std.proofs.lemmas.List.Elements.{All-filter, All-weaker}
use Rattle.cm_types.specs.declared.definition.TypeDef.{TypeDef}
use Rattle.cm_types.specs.Types.{type_in, longest_chain, is_child_type, props_of}
use Rattle.cm_types.specs.Changes.{without_type}
use Rattle.cm_types.specs.BaseTypes.{base_types}
use Rattle.cmis_spec.specs.Repository.{Repository, is_of_type}
use Rattle.cmis_spec.specs.Changes.{with_types}
use Rattle.cmis_spec.specs.Well.{Apart, HasTypes, HasDefs, HasBases, IsRooted, IsDef, IsTyped, IsKept, OwnsValues, Agrees, ends_at_base, IsWellFormed}
use Rattle.cmis_laws.proofs.Lists.{found_holds, found_passes, all_from_any, all_zip, bytes_turned}
use Rattle.cmis_laws.proofs.Left.{not_true, all_kept, apart_filter, find_filtered}
use Rattle.cmis_laws.proofs.Passed.{not_false, or_left, or_right}
use Rattle.cmis_laws.proofs.Kept.{bytes_true}
use Rattle.cmis_laws.proofs.TypeSharing.{apart_without}
use Rattle.type_laws.proofs.Bases.{no_base}
use Rattle.type_laws.proofs.Created.{same_retyped, rising_differ}
use Rattle.type_laws.proofs.Likeness as alike
use Rattle.type_laws.proofs.Likeness.{IsLike}
use Rattle.type_laws.proofs.Retyped.{IsRetyped, retyped_keeps}

module _ (types : List TypeDef) (w : HasTypes types) (id : List ℕ) (t : TypeDef) (there : type_in types id ≡ Some t) (may : not t.mutability.delete ≡ false)
    (childless : list_any (is_child_type t.id) types ≡ false) where
  abbrev others : List TypeDef
  others = without_type types id

  abbrev Good : List ℕ → Type 0
  Good k = bytes_eq k id ≡ false

  own_id : t.id ≡ id
  own_id = bytes_true t.id id (found_passes (λ s. bytes_eq s.id id) types t there)

  -- no type is below it
  other_parent : (k : List ℕ) (s : TypeDef) (p : List ℕ) → type_in types k ≡ Some s → s.parent ≡ Some p → Good p
  other_parent k s p e h =
      let apart : is_child_type t.id s ≡ false = found_holds (λ s. is_child_type t.id s ≡ false) (λ s. bytes_eq s.id k) types s (all_from_any (is_child_type t.id) types childless) e in
      let differ : bytes_eq t.id p ≡ false = sym (ap (λ o. unwrap_or (option_map (bytes_eq t.id) o) false) h) ∙ apart in
      bytes_turned id p (subst (λ i. bytes_eq i p ≡ false) own_id differ)

  found_left : (k : List ℕ) → Good k → type_in others k ≡ type_in types k
  found_left k good = find_filtered (λ s. bytes_eq s.id k) (λ s. not (bytes_eq s.id id)) types
      (λ s e. ap not (ap (λ i. bytes_eq i id) (bytes_true s.id k e) ∙ good))

  pub like : IsLike types others (λ t. t) Good
  like = record {
    found = λ k good. found_left k good ∙ sym (option_map_id (type_in types k));
    above = λ k s p good e h. other_parent k s p e h;
    parent_same = λ k s good e. refl;
    base_same = λ k s good e. refl;
    versionable_same = λ k s good e. refl;
    id_same = λ s. refl;
  }

  -- what holds of each type that stays, by its id
  stays : (P Q : TypeDef → Type 0) → ((s : TypeDef) → Good s.id → P s → Q s) → All P types → All Q others
  stays P Q f all = all_kept (λ s. not (bytes_eq s.id id)) Q types
      (All-weaker P (λ s. not (bytes_eq s.id id) ≡ true → Q s) (λ s h e. f s (not_true (bytes_eq s.id id) e) h) types all)

  bases_stay : HasBases others
  unfolding HasBases
  bases_stay = all_zip (λ b. bytes_eq b.id id ≡ false) (λ b. type_in types b.id ≡ Some b) (λ b. type_in others b.id ≡ Some b) base_types
      (λ b good h. found_left b.id good ∙ h)
      (no_base types w.3 id t there (λ f. both_ways t.mutability.delete f.1 (not_false t.mutability.delete may))) w.3

  pub types_keep : HasTypes others
  types_keep =
      let rise = apart_filter (λ s t. slice_cmp nat_cmp s.id t.id ≡ Less) (λ s. not (bytes_eq s.id id)) types w.5 in (
        rising_differ others rise,
        apart_filter (λ s t. bytes_eq s.query_name t.query_name ≡ false) (λ s. not (bytes_eq s.id id)) types w.1,
        stays (λ s. ends_at_base longest_chain types s.id ≡ true) (λ s. ends_at_base longest_chain others s.id ≡ true)
            (λ s good h. alike.ends_like types others (λ t. t) Good like longest_chain s.id good ∙ h) w.2,
        bases_stay,
        stays (IsRooted types) (IsRooted others) (λ s good h. alike.top_like types others (λ t. t) Good like s.id good ∙ h) w.4,
        rise,
        All-filter (λ s. not (bytes_eq s.id id)) (λ s. Apart (λ d e. slice_cmp nat_cmp d.id e.id ≡ Less) s.properties) types w.6,
        apart_without types id w.7,
      )

  pub defs_keep : HasDefs types → HasDefs others
  defs_keep has = All-filter (λ s. not (bytes_eq s.id id)) (λ s. All (IsDef others) s.properties) types
      (All-weaker (λ s. All (IsDef types) s.properties) (λ s. All (IsDef others) s.properties)
      (λ s. All-weaker (IsDef types) (IsDef others) (λ d i. (All-filter (λ s. not (bytes_eq s.id id)) (λ s. Agrees d s.properties) types i.0, i.1, i.2)) s.properties) types has)

-- ---- the repository

pub deleted_retypes : (r : Repository) (id : List ℕ) (t : TypeDef) → IsWellFormed r → type_in r.types id ≡ Some t → not t.mutability.delete ≡ false → list_any (is_child_type t.id) r.types ≡ false
    → list_any (is_of_type id) r.objects ≡ false → All (IsRetyped r (without_type r.types id)) r.objects
deleted_retypes r id t w there may childless unused =
    all_zip (λ x. is_of_type id x ≡ false) (λ x. IsTyped r.types x × IsKept r (props_of r.types x.kind x.secondary) x × OwnsValues r.types x) (IsRetyped r (without_type r.types id)) r.objects
    (λ x u k. same_retyped r (without_type r.types id) (λ k. bytes_eq k id ≡ false) (like r.types w.types id t there may childless) x
    (bytes_turned id x.kind (or_left (bytes_eq id x.kind) (list_any (bytes_eq id) x.secondary) u))
    (All-weaker (λ s. bytes_eq id s ≡ false) (λ s. bytes_eq s id ≡ false) (λ s. bytes_turned id s) x.secondary
    (all_from_any (bytes_eq id) x.secondary (or_right (bytes_eq id x.kind) (list_any (bytes_eq id) x.secondary) u))) k.0 k.1 k.2)
    (all_from_any (is_of_type id) r.objects unused)
    (all_zip (IsTyped r.types) (λ x. IsKept r (props_of r.types x.kind x.secondary) x × OwnsValues r.types x) (λ x. IsTyped r.types x × IsKept r (props_of r.types x.kind x.secondary) x × OwnsValues r.types x) r.objects
    (λ x a b. (a, b.0, b.1)) w.typed
    (all_zip (λ x. IsKept r (props_of r.types x.kind x.secondary) x) (OwnsValues r.types) (λ x. IsKept r (props_of r.types x.kind x.secondary) x × OwnsValues r.types x) r.objects (λ x a b. (a, b)) w.kept w.own_values))

pub deleted_keeps : (r : Repository) (id : List ℕ) (t : TypeDef) → IsWellFormed r → type_in r.types id ≡ Some t → not t.mutability.delete ≡ false → list_any (is_child_type t.id) r.types ≡ false
    → list_any (is_of_type id) r.objects ≡ false → IsWellFormed (with_types r (without_type r.types id))
deleted_keeps r id t w there may childless unused = retyped_keeps r (without_type r.types id) w (deleted_retypes r id t w there may childless unused)
    (types_keep r.types w.types id t there may childless) (defs_keep r.types w.types id t there may childless w.defs)
