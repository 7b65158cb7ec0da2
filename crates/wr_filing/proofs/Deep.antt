-- Folders that would stand too deep, sought among the pairs or among the objects.
use Rattle.std.specs.Prelude.{◌≡◌, ℕ, zero, suc, Bool, true, false, ◌&&◌, ◌||◌, List, [], ◌∷◌, find, All, Option, Some, None, option_map, unwrap_or}
use Rattle.std.specs.List.{list_any}
use Rattle.std.proofs.Common.{refl, sym, ap, subst, ◌∙◌}
use Rattle.std.proofs.lemmas.Bool.{both_ways, and_parts}
use Rattle.std.proofs.lemmas.List.Elements.{All-head, All-tail}
use Rattle.cm_base.specs.declared.number.Oid.{Oid}
use Rattle.cm_base.specs.declared.object.Object.{Object}
use Rattle.cm_base.specs.declared.filing.Filed.{Filed}
use Rattle.cm_types.specs.declared.definition.BaseType.TheVariants as bases
use Rattle.cmis_spec.specs.Repository.{Repository, same, root, levels_up, object_at, is_a, is_under}
use Rattle.cmis_spec.specs.Well.{Climbs, HasWay, IsWellFormed}
use Rattle.cmis_laws.proofs.Lists.{by_test, found_holds, found_passes, all_zip, all_from_any, same_eq}
use Rattle.cmis_laws.proofs.Entries.{all_there, number_found}
use Rattle.cmis_laws.proofs.Kept.{every}
use Rattle.cmis_laws.proofs.Moved.{map_some}

none_any : {A : Type 0} (p : A → Bool) (xs : List A) → All (λ x. p x ≡ false) xs → list_any p xs ≡ false
none_any p [] all = refl
none_any p (x ∷ xs) all = ap (λ b. b || list_any p xs) (All-head (λ x. p x ≡ false) x xs all) ∙ none_any p xs (All-tail (λ x. p x ≡ false) x xs all)

-- both are false together
alike : (a b : Bool) → (a ≡ false → b ≡ false) → (b ≡ false → a ≡ false) → a ≡ b
alike a b f g = by_test a (λ e. by_test b (λ d. e ∙ sym d) (λ d. absurd (both_ways a (g d) e))) (λ e. e ∙ sym (f e))

-- a folder by the object of its number
abbrev pub is_folder_at : Repository → Oid → Bool
is_folder_at r n = unwrap_or (option_map (is_a r bases.Folder) (object_at r n)) false

module _ (r : Repository) (n : Oid) (far : Oid → Bool) (w : IsWellFormed r) (no_root : same n root ≡ false) where
  abbrev of_pair : Filed → Bool
  of_pair p = is_folder_at r p.child && is_under r p.child n && far p.child

  abbrev of_object : Object → Bool
  of_object y = is_a r bases.Folder y && is_under r y.id n && far y.id

  -- nothing but itself stands on the way up from the root
  root_over : is_under r root n ≡ false
  unfolding levels_up
  root_over = rw (w.root.1, no_root) refl

  object_folder : (y : Object) → object_at r y.id ≡ Some y → is_folder_at r y.id ≡ is_a r bases.Folder y
  object_folder y there = ap (λ o. unwrap_or (option_map (is_a r bases.Folder) o) false) there

  no_object : All (λ p. of_pair p ≡ false) r.filed → (y : Object) → object_at r y.id ≡ Some y → (is_a r bases.Folder y ≡ true → HasWay r.filed y.id) → of_object y ≡ false
  no_object none y there way = by_test (of_object y)
      (λ e.
      let a = and_parts (is_a r bases.Folder y && is_under r y.id n) (far y.id) e in
      let b = and_parts (is_a r bases.Folder y) (is_under r y.id n) a.0 in
      let way' : HasWay r.filed y.id = way b.0 in
      absurd (climbed e b.1 way'.0 way'.2))
      (λ e. e)
    where
      climbed : of_object y ≡ true → is_under r y.id n ≡ true → (k : ℕ) → Climbs k r.filed y.id → ⊥
      climbed e u zero c = both_ways (is_under r y.id n) (subst (λ m. is_under r m n ≡ false) (sym c) root_over) u
      climbed e u (suc k) c =
          let p = map_some (λ (p : Filed). p.folder) (find (λ p. same p.child y.id) r.filed) c.0 c.1 in
          let at : p.0.child ≡ y.id = same_eq p.0.child y.id (found_passes (λ p. same p.child y.id) r.filed p.0 p.1) in
          let gone : of_pair p.0 ≡ false = found_holds (λ p. of_pair p ≡ false) (λ p. same p.child y.id) r.filed p.0 none p.1 in
          let same_test : of_pair p.0 ≡ of_object y = ap (λ m. is_folder_at r m && is_under r m n && far m) at ∙ ap (λ b. b && is_under r y.id n && far y.id) (object_folder y there) in
          both_ways (of_object y) (sym same_test ∙ gone) e

  no_pair : All (λ y. of_object y ≡ false) r.objects → (p : Filed) → of_pair p ≡ false
  no_pair none p = by_test (of_pair p) (λ e. absurd (found e (object_at r p.child) refl)) (λ e. e)
    where
      found : of_pair p ≡ true → (o : Option Object) → object_at r p.child ≡ o → ⊥
      found e None h = both_ways false refl (sym (ap (λ o. unwrap_or (option_map (is_a r bases.Folder) o) false && is_under r p.child n && far p.child) h) ∙ e)
      found e (Some y) h =
          let at : y.id ≡ p.child = number_found r p.child y h in
          let gone : of_object y ≡ false = found_holds (λ y. of_object y ≡ false) (λ y. same y.id p.child) r.objects y none h in
          let same_test : of_pair p ≡ of_object y = ap (λ o. unwrap_or (option_map (is_a r bases.Folder) o) false && is_under r p.child n && far p.child) h ∙ ap (λ m. is_a r bases.Folder y && is_under r m n && far m) (sym at) in
          both_ways (of_object y) gone (sym same_test ∙ e)

  -- each folder but the root stands in a pair
  pub deep_alike : list_any of_pair r.filed ≡ list_any of_object r.objects
  deep_alike = alike (list_any of_pair r.filed) (list_any of_object r.objects)
      (λ e. none_any of_object r.objects (all_zip (λ y. object_at r y.id ≡ Some y) (λ y. is_a r bases.Folder y ≡ true → HasWay r.filed y.id) (λ y. of_object y ≡ false) r.objects
      (no_object (all_from_any of_pair r.filed e)) (all_there r.objects w.numbers.0) w.ways))
      (λ e. none_any of_pair r.filed (every (λ p. of_pair p ≡ false) r.filed (no_pair (all_from_any of_object r.objects e))))
