-- What a shift of the filing refuses is what the pairs and the objects refuse.
use Rattle.std.specs.Prelude.{◌≡◌, ℕ, ◌+◌, ◌-◌, nat_lt, Bool, true, false, ◌&&◌, ◌||◌, not, if◌then◌else◌, List, [], ◌∷◌, map, length, Ok, option_map, unwrap_or, bytes_eq}
use Rattle.std.specs.List.{list_any}
use Rattle.std.proofs.Common.{refl, sym, ap, ◌∙◌}
use Rattle.std.proofs.lemmas.Bool.{both_ways, and_parts}
use Rattle.cm_base.specs.declared.number.Oid.{Oid}
use Rattle.cm_base.specs.declared.filing.Filed.{Filed}
use Rattle.cm_base.specs.declared.cause.Cause.TheVariants as causes
use Rattle.cm_base.specs.Judged.{Judged, ◌>>◌, refuse}
use Rattle.cm_folder.specs.declared.entry.FilingEntry.{FilingEntry}
use Rattle.cm_folder.specs.Filings.{pairs_of, is_entry, is_filed_in, is_name_taken, is_under_in, name_under, is_too_deep as is_far, refusal_place, refusal_shift}
use Rattle.cm_state.specs.Told.{folder_by, name_by, entry_by, entries_of}
use Rattle.cmis_spec.specs.Repository.{Repository, same, root, most_levels, levels_up, upwards, is_filed, is_under, depth_of, is_taken, entry_name}
use Rattle.cmis_spec.specs.Well.{IsWellFormed}
use Rattle.cmis_laws.proofs.Lists.{by_test, same_eq, find_yes, find_no}
use Rattle.wr_filing.specs.MoveObject.{is_too_deep, judge_place}
use Rattle.wr_filing.proofs.Deep.{deep_alike}

any_map : {A B : Type 0} (q : B → Bool) (f : A → B) (xs : List A) → list_any q (map f xs) ≡ list_any (λ x. q (f x)) xs
any_map q f [] = refl
any_map q f (x ∷ xs) = ap (λ b. q (f x) || b) (any_map q f xs)

module _ (r : Repository) where
  abbrev entry : Filed → FilingEntry
  entry = entry_by r.types r.series r.objects

  pairs_are : (ps : List Filed) → pairs_of (map entry ps) ≡ ps
  pairs_are [] = refl
  pairs_are (p ∷ ps) = ap (λ l. p ∷ l) (pairs_are ps)

  filed_is : (f n : Oid) → is_filed_in (entries_of r) f n ≡ is_filed r f n
  filed_is f n = any_map (is_entry f n) entry r.filed

  under_is : (f top : Oid) → is_under_in (entries_of r) f top ≡ is_under r f top
  under_is f top = ap (λ ps. list_any (same top) (upwards levels_up ps f)) (pairs_are r.filed)

  taken_is : (f but : Oid) (name : List ℕ) → is_name_taken (entries_of r) f but name ≡ is_taken r f but name
  taken_is f but name = any_map (λ (e : FilingEntry). same e.folder f && not (same e.child but) && bytes_eq e.name name) entry r.filed

  -- the child's entry in the folder has its name
  named : (f n : Oid) (ps : List Filed) → list_any (λ p. same p.folder f && same p.child n) ps ≡ true → name_under (map entry ps) f n ≡ entry_name r n
  named f n [] h = absurd (both_ways false refl h)
  named f n (p ∷ ps) h = by_test (same p.folder f && same p.child n)
      (λ e. ap (λ o. unwrap_or (option_map (λ (e : FilingEntry). e.name) o) []) (find_yes (is_entry f n) (entry p) (map entry ps) e)
      ∙ ap (name_by r.series r.objects) (same_eq p.child n (and_parts (same p.folder f) (same p.child n) e).1))
      (λ e. ap (λ o. unwrap_or (option_map (λ (e : FilingEntry). e.name) o) []) (find_no (is_entry f n) (entry p) (map entry ps) e)
      ∙ named f n ps (sym (ap (λ b. b || list_any (λ p. same p.folder f && same p.child n) ps) e) ∙ h))

  abbrev far : Oid → Oid → Oid → Bool
  far n t m = nat_lt most_levels (depth_of r t + 1 + (depth_of r m - depth_of r n))

  deep_is : (n t : Oid) → IsWellFormed r → same n root ≡ false → list_any (is_far (entries_of r) n t) (entries_of r) ≡ list_any (is_too_deep r n t) r.objects
  deep_is n t w no_root = any_map (is_far (entries_of r) n t) entry r.filed
      ∙ (ap (λ ps. list_any (λ (p : Filed). folder_by r.types r.objects p.child && list_any (same n) (upwards levels_up ps p.child)
      && nat_lt most_levels (length (upwards levels_up ps t) - 1 + 1 + (length (upwards levels_up ps p.child) - 1 - (length (upwards levels_up ps n) - 1)))) r.filed) (pairs_are r.filed)
      ∙ deep_alike r n (far n t) w no_root)

  pub place_is : (n s t : Oid) → IsWellFormed r → same n root ≡ false → is_filed r s n ≡ true → same s t ≡ false → is_filed r t n ≡ false → refusal_shift (entries_of r) n s t ≡ judge_place r n t
  place_is n s t w no_root filed other unfiled =
      ap (λ b. refuse causes.NotFiled (not b) >> (if same s t then Ok tt else refusal_place (entries_of r) n s t)) (filed_is s n ∙ filed)
      ∙ (ap (λ b. if b then Ok tt else refusal_place (entries_of r) n s t) other
      ∙ (ap (λ b. refuse causes.AlreadyFiled b >> rest) (filed_is t n ∙ unfiled)
      ∙ (λ i. refuse causes.Below (under_is t n i) >> (refuse causes.Deep (deep_is n t w no_root i) >> refuse causes.NameTaken (name_is i)))))
    where
      rest : Judged (Unit {0})
      rest = refuse causes.Below (is_under_in (entries_of r) t n) >> (refuse causes.Deep (list_any (is_far (entries_of r) n t) (entries_of r)) >> refuse causes.NameTaken (is_name_taken (entries_of r) t n (name_under (entries_of r) s n)))

      name_is : is_name_taken (entries_of r) t n (name_under (entries_of r) s n) ≡ is_taken r t n (entry_name r n)
      name_is = ap (is_name_taken (entries_of r) t n) (named s n r.filed filed) ∙ taken_is t n (entry_name r n)
