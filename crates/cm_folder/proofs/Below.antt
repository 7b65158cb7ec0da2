-- What stands below a folder stands in one of the children that have it as their first folder, or below one.
use Rattle.std.proofs.Common.{◌≡◌, ℕ, zero, suc, ◌+◌, ◌-◌, ◌<◌, ◌≤◌, ◌&&◌, ◌||◌, Bool, true, false, List, [], ◌∷◌, length, nat_lt, option_map, Option, None, Some, unwrap_or, sym, ap, subst, refl, ◌∙◌, arith}
use Rattle.std.specs.List.{list_any}
use Rattle.std.proofs.lemmas.Bool.{both_ways}
use Rattle.cm_base.specs.declared.number.Oid.{Oid}
use Rattle.cm_base.specs.declared.filing.Filed.{Filed}
use Rattle.cmis_spec.specs.Repository.{same, most_levels, levels_up, upwards, parent_in}
use Rattle.cmis_laws.proofs.Lists.{same_eq, same_refl, some_eq, none_some}
use Rattle.cm_folder.specs.declared.entry.FilingEntry.{FilingEntry}
use Rattle.cm_folder.specs.Filings.{pairs_of, is_entry, folder_of, folders_up_in, depth_in, is_under_in, is_too_deep}
use Rattle.cm_folder.specs.Depths.{is_first_in, is_far, has_far}
use Rattle.place_laws.proofs.Placing.{by_test}

and_left : (a b : Bool) → a && b ≡ true → a ≡ true
and_left true b h = refl
and_left false b h = h

and_right : (a b : Bool) → a && b ≡ true → b ≡ true
and_right true b h = h
and_right false b h = absurd (both_ways false refl h)

and_both : (a b : Bool) → a ≡ true → b ≡ true → a && b ≡ true
and_both a b h k = rw h k

or_left : (a b : Bool) → a ≡ true → a || b ≡ true
or_left a b h = rw h refl

or_right : (a b : Bool) → b ≡ true → a || b ≡ true
or_right true b h = refl
or_right false b h = h

or_cases : {G : Type 0} (a b : Bool) → a || b ≡ true → (a ≡ true → G) → (b ≡ true → G) → G
or_cases true b h f g = f refl
or_cases false b h f g = g h

-- two tests that follow from each other
both_follow : (a b : Bool) → (a ≡ true → b ≡ true) → (b ≡ true → a ≡ true) → a ≡ b
both_follow true b f g = sym (f refl)
both_follow false true f g = g refl
both_follow false false f g = refl

-- what follows from one that passes, and stands in the list
one_passes : {A : Type 0} (p : A → Bool) (b : Bool) (xs : List A) → list_any p xs ≡ true → ((x : A) → p x ≡ true → ((q : A → Bool) → q x ≡ true → list_any q xs ≡ true) → b ≡ true) → b ≡ true
one_passes p b [] h f = absurd (both_ways false refl h)
one_passes p b (x ∷ xs) h f = or_cases (p x) (list_any p xs) h
    (λ t. f x t (λ q k. or_left (q x) (list_any q xs) k))
    (λ t. one_passes p b xs t (λ y k m. f y k (λ q r. or_right (q x) (list_any q xs) (m q r))))

by_option : {A G : Type 0} (o : Option A) → (o ≡ None → G) → ((a : A) → o ≡ Some a → G) → G
by_option None f g = f refl
by_option (Some a) f g = g a refl

abbrev within : ℕ → List FilingEntry → Oid → Oid → Bool
within n es top f = list_any (same top) (folders_up_in n es f)

-- one entry further up
within_up : (n : ℕ) (es : List FilingEntry) (top z g : Oid) → folder_of es z ≡ Some g → within n es top g ≡ true → within (suc n) es top z ≡ true
within_up n es top z g e h = or_right (same top z) _ (subst (λ o. list_any (same top) (unwrap_or (option_map (folders_up_in n es) o) []) ≡ true) (sym e) h)

-- what stands in the last folder of a way stands on a longer one
within_end : (n : ℕ) (es : List FilingEntry) (top x z : Oid) → folder_of es x ≡ Some top → within n es x z ≡ true → within (suc n) es top z ≡ true
within_end zero es top x z e h = absurd (both_ways false refl h)
within_end (suc n) es top x z e h = or_cases (same x z) (list_any (same x) (unwrap_or (option_map (folders_up_in n es) (folder_of es z)) [])) h
    (λ t. within_up (suc n) es top z top (subst (λ y. folder_of es y ≡ Some top) (same_eq x z t) e) (or_left (same top top) _ (same_refl top)))
    (λ t. by_option (folder_of es z)
    (λ o. absurd (both_ways false refl (subst (λ m. list_any (same x) (unwrap_or (option_map (folders_up_in n es) m) []) ≡ true) o t)))
    (λ g o. within_up (suc n) es top z g o (within_end n es top x g e (subst (λ m. list_any (same x) (unwrap_or (option_map (folders_up_in n es) m) []) ≡ true) o t))))

-- a child's first folder has an entry of it
first_filed : (es : List FilingEntry) (z g : Oid) → folder_of es z ≡ Some g → list_any (is_entry g z) es ≡ true
first_filed [] z g h = absurd (none_some g h)
first_filed (e ∷ es) z g h = by_test (same e.child z)
    (λ t. let at : e.folder ≡ g = some_eq e.folder g (rw t at h) in or_left (is_entry g z e) (list_any (is_entry g z) es) (and_both (same e.folder g) (same e.child z) (subst (λ f. same f g ≡ true) (sym at) (same_refl g)) t))
    (λ t. or_right (is_entry g z e) (list_any (is_entry g z) es) (first_filed es z g (rw t at h)))

first_is : (es : List FilingEntry) (f x : Oid) → is_first_in es f x ≡ true → folder_of es x ≡ Some f
first_is es f x h = by_option (folder_of es x)
    (λ o. absurd (both_ways false refl (subst (λ m. unwrap_or (option_map (same f) m) false ≡ true) o h)))
    (λ g o. o ∙ ap Some (sym (same_eq f g (subst (λ m. unwrap_or (option_map (same f) m) false ≡ true) o h))))

is_first : (es : List FilingEntry) (f x : Oid) → folder_of es x ≡ Some f → is_first_in es f x ≡ true
is_first es f x e = subst (λ m. unwrap_or (option_map (same f) m) false ≡ true) (sym e) (same_refl f)

-- one of the folder's children leads there
abbrev leads : ℕ → List FilingEntry → Oid → Oid → Bool
leads n es f z = list_any (λ d. same d.folder f && (is_first_in es f d.child && within n es d.child z)) es

leads_on : (n : ℕ) (es : List FilingEntry) (f z g : Oid) → folder_of es z ≡ Some g → leads n es f g ≡ true → leads (suc n) es f z ≡ true
leads_on n es f z g e h = one_passes (λ d. same d.folder f && (is_first_in es f d.child && within n es d.child g)) (leads (suc n) es f z) es h
    (λ d k in_list.
    let rest : is_first_in es f d.child && within n es d.child g ≡ true = and_right (same d.folder f) _ k in
    in_list (λ d. same d.folder f && (is_first_in es f d.child && within (suc n) es d.child z))
    (and_both (same d.folder f) _ (and_left (same d.folder f) _ k)
    (and_both (is_first_in es f d.child) _ (and_left (is_first_in es f d.child) _ rest) (within_up n es d.child z g e (and_right (is_first_in es f d.child) _ rest)))))

leads_here : (n : ℕ) (es : List FilingEntry) (f z : Oid) → folder_of es z ≡ Some f → leads (suc n) es f z ≡ true
leads_here n es f z e = one_passes (is_entry f z) (leads (suc n) es f z) es (first_filed es z f e)
    (λ d k in_list.
    let at : d.child ≡ z = same_eq d.child z (and_right (same d.folder f) (same d.child z) k) in
    in_list (λ d. same d.folder f && (is_first_in es f d.child && within (suc n) es d.child z))
    (and_both (same d.folder f) _ (and_left (same d.folder f) (same d.child z) k)
    (subst (λ x. is_first_in es f x && within (suc n) es x z ≡ true) (sym at) (and_both (is_first_in es f z) _ (is_first es f z e) (or_left (same z z) _ (same_refl z))))))

way_down : (n : ℕ) (es : List FilingEntry) (f z : Oid) → within (suc n) es f z ≡ true → same f z || leads n es f z ≡ true
way_down zero es f z h = or_cases (same f z) (list_any (same f) (unwrap_or (option_map (folders_up_in 0 es) (folder_of es z)) [])) h
    (λ t. or_left (same f z) (leads 0 es f z) t)
    (λ t. by_option (folder_of es z)
    (λ o. absurd (both_ways false refl (subst (λ m. list_any (same f) (unwrap_or (option_map (folders_up_in 0 es) m) []) ≡ true) o t)))
    (λ g o. absurd (both_ways false refl (subst (λ m. list_any (same f) (unwrap_or (option_map (folders_up_in 0 es) m) []) ≡ true) o t))))
way_down (suc n) es f z h = or_cases (same f z) (list_any (same f) (unwrap_or (option_map (folders_up_in (suc n) es) (folder_of es z)) [])) h
    (λ t. or_left (same f z) (leads (suc n) es f z) t)
    (λ t. by_option (folder_of es z)
    (λ o. absurd (both_ways false refl (subst (λ m. list_any (same f) (unwrap_or (option_map (folders_up_in (suc n) es) m) []) ≡ true) o t)))
    (λ g o. or_right (same f z) (leads (suc n) es f z)
    (or_cases (same f g) (leads n es f g) (way_down n es f g (subst (λ m. list_any (same f) (unwrap_or (option_map (folders_up_in (suc n) es) m) []) ≡ true) o t))
    (λ k. leads_here n es f z (o ∙ ap Some (sym (same_eq f g k))))
    (λ k. leads_on n es f z g o k))))

way_up : (n : ℕ) (es : List FilingEntry) (f z : Oid) → same f z || leads n es f z ≡ true → within (suc n) es f z ≡ true
way_up n es f z h = or_cases (same f z) (leads n es f z) h
    (λ t. or_left (same f z) _ t)
    (λ t. one_passes (λ d. same d.folder f && (is_first_in es f d.child && within n es d.child z)) (within (suc n) es f z) es t
    (λ d k in_list.
    let rest : is_first_in es f d.child && within n es d.child z ≡ true = and_right (same d.folder f) _ k in
    within_end n es f d.child z (first_is es f d.child (and_left (is_first_in es f d.child) _ rest)) (and_right (is_first_in es f d.child) _ rest)))

-- a folder that is far stands in one of the children, or below one, if it isn't this one
module _ (t : FilingEntry → Bool) where
  abbrev here : List FilingEntry → Oid → Bool
  here es f = list_any (λ e. same e.child f && t e) es

  abbrev below : ℕ → List FilingEntry → Oid → Bool
  below n es f = list_any (λ e. within n es f e.child && t e) es

  abbrev inside : ℕ → List FilingEntry → Oid → Bool
  inside n es f = list_any (λ d. same d.folder f && (is_first_in es f d.child && below n es d.child)) es

  turned : (a b : Oid) → same a b ≡ true → same b a ≡ true
  turned a b h = subst (λ c. same c a ≡ true) (same_eq a b h) (same_refl a)

  down : (n : ℕ) (es : List FilingEntry) (f : Oid) → below (suc n) es f ≡ true → here es f || inside n es f ≡ true
  down n es f h = one_passes (λ e. within (suc n) es f e.child && t e) (here es f || inside n es f) es h
      (λ e k in_list.
      let far : t e ≡ true = and_right (within (suc n) es f e.child) (t e) k in
      or_cases (same f e.child) (leads n es f e.child) (way_down n es f e.child (and_left (within (suc n) es f e.child) (t e) k))
      (λ a. or_left (here es f) (inside n es f) (in_list (λ e. same e.child f && t e) (and_both (same e.child f) (t e) (turned f e.child a) far)))
      (λ a. or_right (here es f) (inside n es f) (one_passes (λ d. same d.folder f && (is_first_in es f d.child && within n es d.child e.child)) (inside n es f) es a
      (λ d b among.
      let rest : is_first_in es f d.child && within n es d.child e.child ≡ true = and_right (same d.folder f) _ b in
      among (λ d. same d.folder f && (is_first_in es f d.child && below n es d.child))
      (and_both (same d.folder f) _ (and_left (same d.folder f) _ b)
      (and_both (is_first_in es f d.child) _ (and_left (is_first_in es f d.child) _ rest)
      (in_list (λ e. within n es d.child e.child && t e) (and_both (within n es d.child e.child) (t e) (and_right (is_first_in es f d.child) _ rest) far))))))))

  up : (n : ℕ) (es : List FilingEntry) (f : Oid) → here es f || inside n es f ≡ true → below (suc n) es f ≡ true
  up n es f h = or_cases (here es f) (inside n es f) h
      (λ a. one_passes (λ e. same e.child f && t e) (below (suc n) es f) es a
      (λ e k in_list. in_list (λ e. within (suc n) es f e.child && t e)
      (and_both (within (suc n) es f e.child) (t e) (or_left (same f e.child) _ (turned e.child f (and_left (same e.child f) (t e) k))) (and_right (same e.child f) (t e) k))))
      (λ a. one_passes (λ d. same d.folder f && (is_first_in es f d.child && below n es d.child)) (below (suc n) es f) es a
      (λ d b among.
      let rest : is_first_in es f d.child && below n es d.child ≡ true = and_right (same d.folder f) _ b in
      one_passes (λ e. within n es d.child e.child && t e) (below (suc n) es f) es (and_right (is_first_in es f d.child) _ rest)
      (λ e k in_list. in_list (λ e. within (suc n) es f e.child && t e)
      (and_both (within (suc n) es f e.child) (t e)
      (within_end n es f d.child e.child (first_is es f d.child (and_left (is_first_in es f d.child) _ rest)) (and_left (within n es d.child e.child) (t e) k))
      (and_right (within n es d.child e.child) (t e) k)))))

  pub one_down : (n : ℕ) (es : List FilingEntry) (f : Oid) → (here es f || inside n es f) ≡ below (suc n) es f
  one_down n es f = both_follow (here es f || inside n es f) (below (suc n) es f) (up n es f) (down n es f)

-- none stands on no way
pub none_far : (n : ℕ) (es : List FilingEntry) (target moved : ℕ) (f : Oid) → n ≡ 0 → false ≡ has_far n es target moved f
none_far n es target moved f e = subst (λ m. false ≡ has_far m es target moved f) (sym e) (none es)
  where
    none : (xs : List FilingEntry) → false ≡ list_any (λ e. list_any (same f) (folders_up_in 0 es e.child) && is_far es target moved e) xs
    none [] = refl
    none (x ∷ xs) = none xs

pub far_step : (n : ℕ) (es : List FilingEntry) (target moved : ℕ) (f : Oid) → 0 < n
    → (list_any (λ e. same e.child f && is_far es target moved e) es || list_any (λ d. same d.folder f && (is_first_in es f d.child && has_far (n - 1) es target moved d.child)) es) ≡ has_far n es target moved f
far_step zero es target moved f lt = absurd (omega (arith, lt))
far_step (suc n) es target moved f lt =
    let e : suc n - 1 ≡ n = omega arith in
    ap (λ m. list_any (λ e. same e.child f && is_far es target moved e) es || list_any (λ d. same d.folder f && (is_first_in es f d.child && has_far m es target moved d.child)) es) e
    ∙ one_down (is_far es target moved) n es f

-- the entries of a child that are far, by whether it is a folder and how deep it stands
pub far_folder : (es xs : List FilingEntry) (target moved : ℕ) (c : Oid)
    → (list_any (λ e. e.is_folder && same e.child c) xs && nat_lt most_levels (target + 1 + (depth_in es c - moved))) ≡ list_any (λ e. same e.child c && is_far es target moved e) xs
far_folder es [] target moved c = refl
far_folder es (e ∷ xs) target moved c = by_test (same e.child c)
    (λ t. rw (t, ap (depth_in es) (same_eq e.child c t)) (by e.is_folder (nat_lt most_levels (target + 1 + (depth_in es c - moved))) _ _ (far_folder es xs target moved c)))
    (λ t. rw t (off e.is_folder (list_any (λ e. e.is_folder && same e.child c) xs) (nat_lt most_levels (target + 1 + (depth_in es c - moved))) _ (far_folder es xs target moved c)))
  where
    by : (a d b r : Bool) → (b && d) ≡ r → ((a && true || b) && d) ≡ (a && d || r)
    by true true b r h = refl
    by true false true r h = h
    by true false false r h = h
    by false d b r h = h

    off : (a b d r : Bool) → (b && d) ≡ r → ((a && false || b) && d) ≡ r
    off true b d r h = h
    off false b d r h = h

upwards_few : (n : ℕ) (xs : List Filed) (f : Oid) → length (upwards n xs f) ≤ n
upwards_few zero xs f = omega arith
upwards_few (suc n) xs f = by_option (parent_in xs f)
    (λ o. rw o (omega arith))
    (λ g o. rw o (let h : length (upwards n xs g) ≤ n = upwards_few n xs g in omega (arith, h)))

-- where the child gets no deeper, no folder does
pub none_deeper : (es : List FilingEntry) (c target : Oid) → depth_in es target < depth_in es c → false ≡ list_any (is_too_deep es c target) es
unfolding most_levels levels_up
none_deeper es c target lt = none es
  where
    not_far : (a b d : ℕ) → a < b → b ≤ 48 → d ≤ 48 → nat_lt 48 (a + 1 + (d - b)) ≡ false
    not_far a b d h m k = grind arith

    few : (f : Oid) → depth_in es f ≤ 48
    few f = let h : length (upwards 49 (pairs_of es) f) ≤ 49 = upwards_few 49 (pairs_of es) f in omega (arith, h)

    and_false : (a b : Bool) → b ≡ false → (a && b) ≡ false
    and_false true b h = h
    and_false false b h = refl

    none : (xs : List FilingEntry) → false ≡ list_any (is_too_deep es c target) xs
    none [] = refl
    none (e ∷ xs) =
        let off : is_too_deep es c target e ≡ false = and_false (e.is_folder && is_under_in es e.child c) _ (not_far (depth_in es target) (depth_in es c) (depth_in es e.child) lt (few c) (few e.child)) in
        rw off (none xs)
