-- A type that is put in its place, with definitions that the rules let pass, keeps what holds of the definitions of all types.
use Rattle.std.specs.Prelude.{◌≡◌, true, false, ◌||◌, List, [], ◌∷◌, ◌++◌, All, bytes_eq}
use Rattle.std.specs.List.{list_any}
use Rattle.std.proofs.Common.{refl, sym, subst}
use Rattle.std.proofs.lemmas.Bool.{both_ways, or_from}
use Rattle.std.proofs.lemmas.List.Elements.{All-nil, All-cons, All-head, All-tail, All-append, All-weaker}
use Rattle.cm_types.specs.declared.definition.TypeDef.{TypeDef}
use Rattle.cm_types.specs.declared.property.PropDef.{PropDef}
use Rattle.cm_types.specs.declared.request.PropRequest.{PropRequest}
use Rattle.cm_types.specs.Changes.{clashes, is_taken_prop, has_clash, has_wrong_value, gives_many, is_wrongly_ordered, breaks_def_rule, breaks_prop_rule, made_props, sorted_props, placed_type}
use Rattle.cm_types.specs.Sound.{IsSoundDef}
use Rattle.cm_types.proofs.Sound.{made_are_sound}
use Rattle.cmis_spec.specs.Well.{Agrees, TakesTexts, IsDef, HasDefs}
use Rattle.cmis_laws.proofs.Lists.{all_from_any, all_zip, bytes_turned}
use Rattle.cmis_laws.proofs.Passed.{or_left, or_right}
use Rattle.type_laws.proofs.Placing.{placed_all, sorted_all}

-- ---- lists

-- the rows of a table, and its columns
pub turned_all : {A B : Type 0} (R : A → B → Type 0) (xs : List A) (ys : List B) → All (λ x. All (R x) ys) xs → All (λ y. All (λ x. R x y) xs) ys
turned_all R xs [] all = All-nil (λ y. All (λ x. R x y) xs)
turned_all R xs (y ∷ ys) all = All-cons (λ y. All (λ x. R x y) xs) y ys
    (All-weaker (λ x. All (R x) (y ∷ ys)) (λ x. R x y) (λ x h. All-head (R x) y ys h) xs all)
    (turned_all R xs ys (All-weaker (λ x. All (R x) (y ∷ ys)) (λ x. All (R x) ys) (λ x h. All-tail (R x) y ys h) xs all))

-- ---- clashes

pub clash_turned : (d e : PropDef) → clashes d e ≡ false → clashes e d ≡ false
clash_turned d e h = or_from (bytes_eq e.id d.id) (bytes_eq e.query_name d.query_name)
    (bytes_turned d.id e.id (or_left (bytes_eq d.id e.id) (bytes_eq d.query_name e.query_name) h))
    (bytes_turned d.query_name e.query_name (or_right (bytes_eq d.id e.id) (bytes_eq d.query_name e.query_name) h))

abbrev Agree : PropDef → PropDef → Type 0
Agree d e = clashes d e ≡ true → d ≡ e

-- what does not clash agrees
apart_agree : (d e : PropDef) → clashes d e ≡ false → Agree d e
apart_agree d e h k = absurd (both_ways (clashes d e) h k)

-- among definitions without a clash each agrees with all
each_agree : (ds : List PropDef) → has_clash ds ≡ false → All (λ d. Agrees d ds) ds
each_agree [] h = All-nil (λ d. Agrees d [])
each_agree (d ∷ ds) h =
    let apart : All (λ e. clashes d e ≡ false) ds = all_from_any (clashes d) ds (or_left (list_any (clashes d) ds) (has_clash ds) h) in
    All-cons (λ e. Agrees e (d ∷ ds)) d ds
    (All-cons (Agree d) d ds (λ _. refl) (All-weaker (λ e. clashes d e ≡ false) (Agree d) (apart_agree d) ds apart))
    (all_zip (λ e. clashes d e ≡ false) (λ e. Agrees e ds) (λ e. Agrees e (d ∷ ds)) ds
    (λ e c a. All-cons (Agree e) d ds (apart_agree e d (clash_turned d e c)) a) apart
    (each_agree ds (or_right (list_any (clashes d) ds) (has_clash ds) h)))

-- ---- what the rules let pass

pub record ArePassed (types : List TypeDef) (ds : List PropDef) : Type 0 where
  pub free : All (λ d. is_taken_prop types d ≡ false) ds
  pub no_clash : has_clash ds ≡ false
  pub sound : All IsSoundDef ds

pub passed : (types : List TypeDef) (ps : List PropRequest) → breaks_prop_rule types ps ≡ false → ArePassed types (made_props ps)
passed types ps h =
    let ds = made_props ps in
    let rule : breaks_def_rule types ds ≡ false = or_right (list_any gives_many ps) (breaks_def_rule types ds) h in
    let three = list_any has_wrong_value ds || list_any is_wrongly_ordered ds || list_any (is_taken_prop types) ds in
    let taken : three ≡ false = or_left three (has_clash ds) rule in
    let two = list_any has_wrong_value ds || list_any is_wrongly_ordered ds in
    record {
      free = all_from_any (is_taken_prop types) ds (or_right two (list_any (is_taken_prop types) ds) taken);
      no_clash = or_right three (has_clash ds) rule;
      sound = made_are_sound ps (or_left (list_any has_wrong_value ds) (list_any is_wrongly_ordered ds) (or_left two (list_any (is_taken_prop types) ds) taken));
    }

-- each stands apart from each definition of the types
pub free_table : (types : List TypeDef) (ds : List PropDef) → All (λ d. is_taken_prop types d ≡ false) ds → All (λ d. All (λ (s : TypeDef). All (λ (e : PropDef). clashes d e ≡ false) s.properties) types) ds
free_table types ds free = All-weaker (λ d. is_taken_prop types d ≡ false) (λ d. All (λ (s : TypeDef). All (λ (e : PropDef). clashes d e ≡ false) s.properties) types)
    (λ d h. All-weaker (λ (s : TypeDef). list_any (clashes d) s.properties ≡ false) (λ (s : TypeDef). All (λ (e : PropDef). clashes d e ≡ false) s.properties) (λ s. all_from_any (clashes d) s.properties) types
    (all_from_any (λ (s : TypeDef). list_any (clashes d) s.properties) types h)) ds free

-- ---- the type in its place

-- its definitions are of types that are there, and new ones that the rules let pass
module _ (types : List TypeDef) (t : TypeDef) (olds ds : List PropDef) (has : HasDefs types) (are : ArePassed types ds) (texts : All TakesTexts ds)
    (joined : t.properties ≡ sorted_props (olds ++ ds)) (within : (Q : PropDef → Type 0) → All (λ (s : TypeDef). All Q s.properties) types → All Q olds) where
  abbrev others : List TypeDef
  others = placed_type t types

  table : All (λ d. All (λ (s : TypeDef). All (λ (e : PropDef). clashes d e ≡ false) s.properties) types) ds
  table = free_table types ds are.free

  -- what is there agrees with what is new
  olds_agree : All (λ (s : TypeDef). All (λ (e : PropDef). Agrees e ds) s.properties) types
  olds_agree = All-weaker (λ (s : TypeDef). All (λ (d : PropDef). All (λ (e : PropDef). clashes d e ≡ false) s.properties) ds) (λ (s : TypeDef). All (λ (e : PropDef). Agrees e ds) s.properties)
      (λ s h. All-weaker (λ (e : PropDef). All (λ (d : PropDef). clashes d e ≡ false) ds) (λ (e : PropDef). Agrees e ds)
      (λ e k. All-weaker (λ (d : PropDef). clashes d e ≡ false) (Agree e) (λ d c. apart_agree e d (clash_turned d e c)) ds k) s.properties
      (turned_all (λ (d e : PropDef). clashes d e ≡ false) ds s.properties h)) types
      (turned_all (λ (d : PropDef) (s : TypeDef). All (λ (e : PropDef). clashes d e ≡ false) s.properties) ds types table)

  agrees_t : (d : PropDef) → Agrees d olds → Agrees d ds → Agrees d t.properties
  agrees_t d a b = subst (Agrees d) (sym joined) (sorted_all (Agree d) (olds ++ ds) (All-append (Agree d) olds ds a b))

  everywhere : (d : PropDef) → All (λ s. Agrees d s.properties) types → Agrees d ds → All (λ s. Agrees d s.properties) others
  everywhere d a b = placed_all (λ s. Agrees d s.properties) (λ s. s.id) t types (agrees_t d (within (Agree d) a) b) a

  old_defs : All (λ s. All (IsDef others) s.properties) types
  old_defs = all_zip (λ s. All (IsDef types) s.properties) (λ s. All (λ e. Agrees e ds) s.properties) (λ s. All (IsDef others) s.properties) types
      (λ s i a. all_zip (IsDef types) (λ e. Agrees e ds) (IsDef others) s.properties (λ e j b. (everywhere e j.0 b, j.1, j.2)) i a) has olds_agree

  new_defs : All (IsDef others) ds
  new_defs = all_zip (λ d. All (λ s. Agrees d s.properties) types × Agrees d ds) (λ d. IsSoundDef d × TakesTexts d) (IsDef others) ds (λ d a s. (everywhere d a.0 a.1, s.0, s.1))
      (all_zip (λ d. All (λ (s : TypeDef). All (λ (e : PropDef). clashes d e ≡ false) s.properties) types) (λ d. Agrees d ds) (λ d. All (λ s. Agrees d s.properties) types × Agrees d ds) ds
      (λ d f a. (
        All-weaker (λ (s : TypeDef). All (λ (e : PropDef). clashes d e ≡ false) s.properties) (λ s. Agrees d s.properties)
            (λ s. All-weaker (λ (e : PropDef). clashes d e ≡ false) (Agree d) (apart_agree d) s.properties) types f,
        a,
      )) table (each_agree ds are.no_clash))
      (all_zip IsSoundDef TakesTexts (λ d. IsSoundDef d × TakesTexts d) ds (λ d a b. (a, b)) are.sound texts)

  pub defs_placed : HasDefs others
  defs_placed = placed_all (λ s. All (IsDef others) s.properties) (λ s. s.id) t types
      (subst (All (IsDef others)) (sym joined) (sorted_all (IsDef others) (olds ++ ds) (All-append (IsDef others) olds ds (within (IsDef others) old_defs) new_defs))) old_defs
