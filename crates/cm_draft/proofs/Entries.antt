-- What the changes make of the filing's entries.
use Rattle.std.specs.Prelude.{◌≡◌, false, ◌&&◌, not, if◌then◌else◌, List, [], ◌∷◌, ◌++◌, map, filter, All, Option, Some, None, option_map, option_and_then, unwrap_or}
use Rattle.std.proofs.Common.{refl, sym, ap, ◌∙◌}
use Rattle.std.proofs.lemmas.Bool.{and_parts}
use mathlib.Core.List.{map-append}
use Rattle.cm_base.specs.declared.number.Oid.{Oid}
use Rattle.cm_base.specs.declared.object.Object.{Object}
use Rattle.cm_base.specs.declared.series.Series.{Series}
use Rattle.cm_base.specs.declared.filing.Filed.{Filed}
use Rattle.cm_types.specs.declared.definition.TypeDef.{TypeDef}
use Rattle.cm_types.specs.declared.definition.BaseType.TheVariants as bases
use Rattle.cm_types.specs.Types.{is_of_base}
use Rattle.cm_folder.specs.declared.entry.FilingEntry.{FilingEntry}
use Rattle.cm_folder.specs.Filings.{pair_of, pairs_of, is_entry, in_folder, shifted, unfiled, filed_with, told, retold}
use Rattle.cmis_spec.specs.Repository.{same}
use Rattle.cmis_spec.specs.Changes.{refiled}
use Rattle.cmis_laws.proofs.Lists.{by_test, same_eq, found_holds}
use Rattle.cm_state.specs.Told.{object_in, series_in, name_by, folder_by, entry_by}

-- ---- entries that are made of pairs

module _ (f : Filed → FilingEntry) (own : (p : Filed) → pair_of (f p) ≡ p) where
  pairs_are : (ps : List Filed) → pairs_of (map f ps) ≡ ps
  pairs_are [] = refl
  pairs_are (p ∷ ps) = λ i. own p i ∷ pairs_are ps i

  -- what is so made of a list of pairs has these pairs
  pub made : (es : List FilingEntry) (ps : List Filed) → es ≡ map f ps → (pairs_of es ≡ ps) × (es ≡ map f (pairs_of es))
  made es ps e = let at : pairs_of es ≡ ps = ap pairs_of e ∙ pairs_are ps in (at, e ∙ ap (map f) (sym at))

pub own_pair : (types : List TypeDef) (series : List Series) (objects : List Object) (p : Filed) → pair_of (entry_by types series objects p) ≡ p
own_pair types series objects p = refl

module _ (types : List TypeDef) (series : List Series) (objects : List Object) where
  abbrev f : Filed → FilingEntry
  f = entry_by types series objects

  -- ---- changes of the pairs

  pub filed_more : (ps : List Filed) (p : Filed) → filed_with (map f ps) (f p) ≡ map f (ps ++ p ∷ [])
  filed_more ps p = sym (map-append f ps (p ∷ []))

  pub filed_less : (folder child : Oid) (ps : List Filed) → unfiled (map f ps) folder child ≡ map f (filter (λ p. not (same p.folder folder && same p.child child)) ps)
  filed_less folder child [] = refl
  filed_less folder child (p ∷ ps) = by_test (same p.folder folder && same p.child child)
      (λ e. rw e (filed_less folder child ps))
      (λ e. rw e (ap (λ es. f p ∷ es) (filed_less folder child ps)))

  moved_one : (c s t : Oid) (p : Filed) → (if is_entry s c (f p) then in_folder t (f p) else f p) ≡ f (refiled c s t p)
  moved_one c s t p = by_test (same p.folder s && same p.child c)
      (λ e. let at : p.child ≡ c = same_eq p.child c (and_parts (same p.folder s) (same p.child c) e).1 in
      ap (λ b. if b then in_folder t (f p) else f p) e
      ∙ ((λ i. record { folder = t; child = at i; is_folder = folder_by types objects (at i); name = name_by series objects (at i) })
      ∙ sym (ap (λ b. f (if b then record { folder = t; child = c } else p)) e)))
      (λ e. ap (λ b. if b then in_folder t (f p) else f p) e ∙ sym (ap (λ b. f (if b then record { folder = t; child = c } else p)) e))

  pub filed_moved : (c s t : Oid) (ps : List Filed) → shifted (map f ps) c s t ≡ map f (map (refiled c s t) ps)
  filed_moved c s t [] = refl
  filed_moved c s t (p ∷ ps) = λ i. moved_one c s t p i ∷ filed_moved c s t ps i

  -- ---- changes of one object or series

  -- what two lists of series and of objects tell of a child is the same
  pub record Agree (types' : List TypeDef) (series' : List Series) (objects' : List Object) (n : Oid) : Type 0 where
    pub folder : folder_by types' objects' n ≡ folder_by types objects n
    pub name : name_by series' objects' n ≡ name_by series objects n

  pub object_agrees : (objects' : List Object) (n : Oid) → object_in objects' n ≡ object_in objects n → Agree types series objects' n
  object_agrees objects' n e = record {
    folder = ap (λ o. unwrap_or (option_map (λ x. is_of_base types bases.Folder x.kind) o) false) e;
    name = ap (λ o. unwrap_or (option_map (λ s. s.name) (series_in series n)) (unwrap_or (option_and_then (λ x. x.name) o) [])) e;
  }

  pub series_agrees : (series' : List Series) (n : Oid) → series_in series' n ≡ series_in series n → Agree types series' objects n
  series_agrees series' n e = record {
    folder = refl;
    name = ap (λ o. unwrap_or (option_map (λ s. s.name) o) (unwrap_or (option_and_then (λ x. x.name) (object_in objects n)) [])) e;
  }

  -- where they agree on all others, the entries of one child are told anew
  module _ (series' : List Series) (objects' : List Object) (n : Oid) (others : (m : Oid) → same m n ≡ false → Agree types series' objects' m) where
    abbrev f' : Filed → FilingEntry
    f' = entry_by types series' objects'

    told_one : (p : Filed) → (if same p.child n then told (folder_by types objects' n) (name_by series' objects' n) (f p) else f p) ≡ f' p
    told_one p = by_test (same p.child n)
        (λ e. let at : n ≡ p.child = sym (same_eq p.child n e) in
        ap (λ b. if b then told (folder_by types objects' n) (name_by series' objects' n) (f p) else f p) e
        ∙ (λ i. record { folder = p.folder; child = p.child; is_folder = folder_by types objects' (at i); name = name_by series' objects' (at i) }))
        (λ e. ap (λ b. if b then told (folder_by types objects' n) (name_by series' objects' n) (f p) else f p) e
        ∙ (λ i. record { folder = p.folder; child = p.child; is_folder = sym (others p.child e).folder i; name = sym (others p.child e).name i }))

    pub filed_told : (ps : List Filed) → retold (map f ps) n (folder_by types objects' n) (name_by series' objects' n) ≡ map f' ps
    filed_told [] = refl
    filed_told (p ∷ ps) = λ i. told_one p i ∷ filed_told ps i

  -- other types, by which the same objects are folders
  module _ (types' : List TypeDef) (same_folders : All (λ x. is_of_base types' bases.Folder x.kind ≡ is_of_base types bases.Folder x.kind) objects) where
    folder_same : (n : Oid) → folder_by types' objects n ≡ folder_by types objects n
    folder_same n = by (object_in objects n) refl
      where
        by : (o : Option Object) → object_in objects n ≡ o → unwrap_or (option_map (λ x. is_of_base types' bases.Folder x.kind) o) false ≡ unwrap_or (option_map (λ x. is_of_base types bases.Folder x.kind) o) false
        by None e = refl
        by (Some x) e = found_holds (λ x. is_of_base types' bases.Folder x.kind ≡ is_of_base types bases.Folder x.kind) (λ x. same x.id n) objects x same_folders e

    pub filed_typed : (ps : List Filed) → map f ps ≡ map (entry_by types' series objects) ps
    filed_typed [] = refl
    filed_typed (p ∷ ps) = λ i. record { folder = p.folder; child = p.child; is_folder = sym (folder_same p.child) i; name = name_by series objects p.child } ∷ filed_typed ps i
