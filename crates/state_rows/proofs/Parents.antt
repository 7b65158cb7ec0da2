-- The folders of an entry that a caller reads, by what is filed.
use Rattle.std.specs.Prelude.{◌≡◌, ℕ, Bool, true, false, ◌&&◌, ◌||◌, if◌then◌else◌, List, [], ◌∷◌, ◌++◌, map, filter, Option, Some, None, is_some, option_map, option_and_then, unwrap_or}
use Rattle.std.specs.List.{list_any, flat_map}
use Rattle.std.proofs.Common.{refl, sym, ap, ◌∙◌, arith}
use Rattle.cm_base.specs.declared.number.Oid.{Oid}
use Rattle.cm_base.specs.declared.object.Object.{Object}
use Rattle.cm_base.specs.declared.filing.Filed.{Filed}
use Rattle.cm_types.specs.declared.property.PropDef.{PropDef}
use Rattle.call_parts.specs.declared.readings.PropertyFilter.TheVariants as filters
use Rattle.cm_see.specs.Shown.{passes}
use Rattle.cm_map.specs.Keyed.{Rises}
use Rattle.cmis_spec.specs.Repository.{Repository, same, object_at, is_filed}
use Rattle.cmis_spec.specs.Access.{reads, parents_of}
use Rattle.cmis_spec.specs.Seen.{is_read}
use Rattle.cmis_spec.specs.Well.{IsWellFormed}
use Rattle.cmis_laws.proofs.Lists.{by_test, same_eq}
use Rattle.cmis_laws.proofs.Entries.{number_found}
use Rattle.cm_state.proofs.Numbers.{flip}
use Rattle.cm_state.specs.Looks.{folders_in}
use Rattle.state_rows.proofs.RisingLists.{rising_filter}

-- what is kept has the members that pass
any_kept : (p : Oid → Bool) (m : Oid) (ns : List Oid) → list_any (same m) (filter p ns) ≡ (p m && list_any (same m) ns)
any_kept p m [] = never (p m)
  where
    never : (b : Bool) → false ≡ (b && false)
    never b = grind arith
any_kept p m (n ∷ ns) = by_test (same m n)
    (λ e. let at : m ≡ n = same_eq m n e in
    by_test (p n)
    (λ d. rw (d, e, ap p at ∙ d) refl)
    (λ d. rw (d, e, ap p at ∙ d) (any_kept p m ns ∙ ap (λ b. b && list_any (same m) ns) (ap p at ∙ d))))
    (λ e. by_test (p n)
    (λ d. rw (d, e) (any_kept p m ns))
    (λ d. rw (d, e) (any_kept p m ns)))

any_folder : (m n : Oid) (ps : List Filed) → list_any (same m) (map (λ p. p.folder) (filter (λ p. same p.child n) ps)) ≡ list_any (λ p. same p.folder m && same p.child n) ps
any_folder m n [] = refl
any_folder m n (p ∷ ps) = by_test (same p.child n)
    (λ e. rw e (λ i. one (same m p.folder) (same p.folder m) (flip p.folder.0 m.0) i || any_folder m n ps i))
    (λ e. rw e (any_folder m n ps ∙ ap (λ b. b || list_any (λ p. same p.folder m && same p.child n) ps) (none (same p.folder m))))
  where
    one : (a b : Bool) → a ≡ b → a ≡ (b && true)
    one a b e = grind (arith, e)

    none : (b : Bool) → false ≡ (b && false)
    none b = grind arith

module _ (r : Repository) (u : List ℕ) (n : Oid) where
  folder_read : (m : Oid) → list_any (same m) (filter (is_read r u) (folders_in r n)) ≡ unwrap_or (option_map (λ f. is_filed r f.id n && reads r u f) (object_at r m)) false
  folder_read m = any_kept (is_read r u) m (folders_in r n) ∙ (ap (λ b. is_read r u m && b) (any_folder m n r.filed) ∙ by (object_at r m) refl)
    where
      turned : (x : Object) (b : Bool) → (is_some (if b then Some x else None) && is_filed r m n) ≡ (is_filed r m n && b)
      turned x true = grind arith
      turned x false = grind arith

      by : (o : Option Object) → object_at r m ≡ o → (is_some (option_and_then (λ x. if reads r u x then Some x else None) (object_at r m)) && is_filed r m n) ≡ unwrap_or (option_map (λ f. is_filed r f.id n && reads r u f) (object_at r m)) false
      by None e = rw e refl
      by (Some x) e = rw e (turned x (reads r u x) ∙ ap (λ k. is_filed r k n && reads r u x) (sym (number_found r m x e)))

  -- the folders that are read, in the order of their numbers
  pub parents_numbers : (ns : List Oid) → IsWellFormed r → Rises (λ n. n.0) ns → ((m : Oid) → list_any (same m) ns ≡ list_any (same m) (filter (is_read r u) (folders_in r n))) → ns ≡ map (λ f. f.id) (parents_of r u n)
  parents_numbers ns w rises members = rising_filter (λ f. is_filed r f.id n && reads r u f) r.objects ns w.numbers.0 rises (λ m. members m ∙ folder_read m)

-- ---- lists

pub all_shown : (ds : List PropDef) → filter (passes filters.All) ds ≡ ds
all_shown [] = refl
all_shown (d ∷ ds) = ap (λ es. d ∷ es) (all_shown ds)

pub flat_ids : {A : Type 0} (f : Oid → List A) (xs : List Object) → flat_map (λ x. f x.id) xs ≡ flat_map f (map (λ x. x.id) xs)
flat_ids f [] = refl
flat_ids f (x ∷ xs) = ap (λ ys. f x.id ++ ys) (flat_ids f xs)
