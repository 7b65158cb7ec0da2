-- What is filed in a folder, by the entries that stand in it.
use Rattle.std.specs.Prelude.{◌≡◌, Bool, true, false, ◌&&◌, ◌||◌, not, if◌then◌else◌, List, [], ◌∷◌, ◌++◌, map, filter, All, Option, Some, None, IfSome, is_some, is_none, option_map, option_and_then, unwrap_or}
use Rattle.std.specs.List.{list_any, flat_map}
use Rattle.std.proofs.Common.{refl, sym, ap, subst, ◌∙◌, arith}
use Rattle.std.proofs.lemmas.Bool.{both_ways}
use Rattle.std.proofs.lemmas.List.Elements.{All-head, All-tail}
use Rattle.cm_base.specs.declared.number.Oid.{Oid}
use Rattle.cm_base.specs.declared.object.Object.{Object}
use Rattle.cm_base.specs.declared.series.Series.{Series}
use Rattle.cm_base.specs.declared.series.WorkingCopy.{WorkingCopy}
use Rattle.cm_base.specs.declared.filing.Filed.{Filed}
use Rattle.cm_map.specs.Keyed.{Rises}
use Rattle.cmis_spec.specs.Repository.{Repository, same, object_at, series_at, owner_of, entry_of}
use Rattle.cmis_spec.specs.Well.{Apart, Belongs, members, copy_in, HasSome, IsMember, IsWellFormed}
use Rattle.cmis_laws.proofs.Lists.{by_test, some_eq, none_some, found_holds, same_eq, same_refl, differ}
use Rattle.cmis_laws.proofs.Entries.{number_found, series_found, one_there}
use Rattle.cm_state.proofs.Numbers.{flip}
use Rattle.cm_state.specs.Looks.{entries_in}
use Rattle.row_store.specs.Rows.{filed_in, is_filed_in}
use Rattle.state_rows.specs.Entries.{own_number, rows_by, rows_at}
use Rattle.state_rows.proofs.Membership.{any_append, any_flat, any_by, any_never}
use Rattle.state_rows.proofs.RisingLists.{rising_filter}

-- ---- truth

never : (a : Bool) → a && false ≡ false
never a = grind arith

no_more : (b : Bool) → (b ≡ true → ⊥) → b ≡ false
no_more true h = absurd (h refl)
no_more false h = refl

and_both : (a b : Bool) → a ≡ true → b ≡ true → a && b ≡ true
and_both a b h k = grind (arith, h, k)

-- ---- lists

any_entry : (t : Oid → Bool) (f : Oid) (ps : List Filed) → list_any t (map (λ p. p.child) (filter (λ p. same p.folder f) ps)) ≡ list_any (λ p. same p.folder f && t p.child) ps
any_entry t f [] = refl
any_entry t f (p ∷ ps) = by_test (same p.folder f)
    (λ e. rw e (ap (λ b. t p.child || b) (any_entry t f ps)))
    (λ e. rw e (any_entry t f ps))

any_and : {A : Type 0} (p : A → Bool) (b : Bool) (xs : List A) → list_any (λ a. p a && b) xs ≡ (list_any p xs && b)
any_and p b [] = refl
any_and p b (x ∷ xs) = ap (λ c. p x && b || c) (any_and p b xs) ∙ spread (p x) b (list_any p xs)
  where
    spread : (a b c : Bool) → (a && b || c && b) ≡ ((a || c) && b)
    spread a b c = grind arith

-- what is in a list has what all of it have
any_has : (P : Oid → Type 0) (m : Oid) (ns : List Oid) → All P ns → list_any (same m) ns ≡ true → P m
any_has P m [] all h = absurd (both_ways false refl h)
any_has P m (n ∷ ns) all h = by_test (same m n)
    (λ e. subst P (sym (same_eq m n e)) (All-head P n ns all))
    (λ e. any_has P m ns (All-tail P n ns all) (rw e at h))

in_front : (m : Oid) (xs ys : List Oid) → list_any (same m) xs ≡ true → list_any (same m) (xs ++ ys) ≡ true
in_front m xs ys h = any_append (same m) xs ys ∙ ap (λ b. b || list_any (same m) ys) h

-- where no two are the same, what is behind is not in front
not_in_front : (m : Oid) (xs : List Oid) → Apart (λ a b. same a b ≡ false) (xs ++ m ∷ []) → list_any (same m) xs ≡ false
not_in_front m [] a = refl
not_in_front m (x ∷ xs) a = by_test (same m x)
    (λ e. absurd (both_ways (same x m) (last (λ b. same x b ≡ false) xs a.0) (subst (λ z. same z m ≡ true) (same_eq m x e) (same_refl m))))
    (λ e. rw e (not_in_front m xs a.1))
  where
    last : (P : Oid → Type 0) (xs : List Oid) → All P (xs ++ m ∷ []) → P m
    last P [] all = All-head P m [] all
    last P (y ∷ ys) all = last P ys (All-tail P y (ys ++ m ∷ []) all)

-- ---- an entry has an object among its rows exactly where the entry is its own, and it is no working copy

module _ (r : Repository) (w : IsWellFormed r) where
  belongs : (m : Oid) (x : Object) → object_at r m ≡ Some x → Belongs r x x.series
  belongs m x e = found_holds (λ x. Belongs r x x.series) (λ x. same x.id m) r.objects x w.documents e

  first_in : (c : Oid) (s : Series) (x : Object) → series_at r c ≡ Some s → object_at r c ≡ Some x → x.series ≡ Some c
  first_in c s x e o =
      let id : s.id ≡ c = series_found r c s e in
      subst (λ m. x.series ≡ Some m) id (subst (λ o. IfSome o (λ y. y.series ≡ Some s.id)) (ap (object_at r) id ∙ o) (found_holds (λ s. IfSome (object_at r s.id) (λ y. y.series ≡ Some s.id)) (λ s. same s.id c) r.series s w.firsts e))

  series_facts : (c : Oid) (s : Series) → series_at r c ≡ Some s → All (IsMember r s) (members s) × Apart (λ m n. same m n ≡ false) (members s) × HasSome s
  series_facts c s e = found_holds (λ s. All (IsMember r s) (members s) × Apart (λ m n. same m n ≡ false) (members s) × HasSome s) (λ s. same s.id c) r.series s w.series e

  versions_of : Series → List Oid
  versions_of s = map (λ v. v.object) s.versions

  -- a version is an object of the series
  version_in : (c : Oid) (s : Series) (m : Oid) → series_at r c ≡ Some s → list_any (same m) (map (λ v. v.object) s.versions) ≡ true → (y : Object) × (object_at r m ≡ Some y) × (y.series ≡ Some c)
  version_in c s m e h =
      let k : IsMember r s m = any_has (IsMember r s) m (members s) (series_facts c s e).0 (in_front m (map (λ v. v.object) s.versions) (copy_in s) h) in
      (k.0, k.1, k.2 ∙ ap Some (series_found r c s e))

  own_in : (c m : Oid) (o : Option Object) → object_at r c ≡ o → list_any (same m) (own_number o) ≡ true → (y : Object) × (object_at r m ≡ Some y) × (y.series ≡ None) × (m ≡ c)
  own_in c m None e h = absurd (both_ways false refl h)
  own_in c m (Some y) e h = of y.series refl
    where
      of : (k : Option Oid) → y.series ≡ k → (y : Object) × (object_at r m ≡ Some y) × (y.series ≡ None) × (m ≡ c)
      of (Some k) d = absurd (both_ways false refl (sym (ap (λ o. list_any (same m) (if is_none o then y.id ∷ [] else [])) d) ∙ h))
      of None d =
          let there : same m y.id || false ≡ true = sym (ap (λ o. list_any (same m) (if is_none o then y.id ∷ [] else [])) d) ∙ h in
          let at : m ≡ c = same_eq m y.id (one (same m y.id) there) ∙ number_found r c y e in
          (y, ap (object_at r) at ∙ e, d, at)
        where
          one : (b : Bool) → b || false ≡ true → b ≡ true
          one true h = refl
          one false h = h

  -- the object that an entry has among its rows
  row_there : (c m : Oid) (o : Option Series) → series_at r c ≡ o → list_any (same m) (rows_by r c o) ≡ true → (y : Object) × (object_at r m ≡ Some y)
  row_there c m (Some s) e h = let k = version_in c s m e h in (k.0, k.1)
  row_there c m None e h = let k = own_in c m (object_at r c) refl h in (k.0, k.1)

  none_rows : (m c : Oid) → object_at r m ≡ None → list_any (same m) (rows_at r c) ≡ false
  none_rows m c e = no_more (list_any (same m) (rows_at r c)) (λ h. let k = row_there c m (series_at r c) refl h in none_some k.0 (sym e ∙ k.1))

  -- of a document of the series
  version_row : (c : Oid) (s : Series) (x : Object) → series_at r c ≡ Some s → x.series ≡ Some c → list_any (same x.id) (members s) ≡ true
      → list_any (same x.id) (map (λ v. v.object) s.versions) ≡ not (is_some (owner_of r x))
  version_row c s x e at inside = by s.working refl ∙ ap (λ o. not (is_some (option_and_then (λ s. option_and_then (λ w. if same w.copy x.id then Some w.owner else None) s.working) o))) (sym (ap (option_and_then (series_at r)) at ∙ e))
    where
      apart : Apart (λ m n. same m n ≡ false) (members s)
      apart = (series_facts c s e).1

      left : (b d : Bool) → b || d ≡ true → d ≡ false → b ≡ true
      left b d h k = grind (arith, h, k)

      owned : Option WorkingCopy → Bool
      owned o = not (is_some (option_and_then (λ w. if same w.copy x.id then Some w.owner else None) o))

      by : (o : Option WorkingCopy) → s.working ≡ o → list_any (same x.id) (map (λ v. v.object) s.versions) ≡ not (is_some (option_and_then (λ w. if same w.copy x.id then Some w.owner else None) s.working))
      by None k = left (list_any (same x.id) (map (λ v. v.object) s.versions)) false (sym (any_append (same x.id) (map (λ v. v.object) s.versions) []) ∙ subst (λ q. list_any (same x.id) (map (λ v. v.object) s.versions ++ unwrap_or (option_map (λ w. w.copy ∷ []) q) []) ≡ true) k inside) refl
          ∙ ap (λ q. not (is_some (option_and_then (λ w. if same w.copy x.id then Some w.owner else None) q))) (sym k)
      by (Some w') k = by_test (same w'.copy x.id)
          (λ d.
          let id : w'.copy ≡ x.id = same_eq w'.copy x.id d in
          let listed : Apart (λ m n. same m n ≡ false) (map (λ v. v.object) s.versions ++ x.id ∷ []) = subst (λ n. Apart (λ m n. same m n ≡ false) (map (λ v. v.object) s.versions ++ n ∷ [])) id (subst (λ q. Apart (λ m n. same m n ≡ false) (map (λ v. v.object) s.versions ++ unwrap_or (option_map (λ w. w.copy ∷ []) q) [])) k apart) in
          not_in_front x.id (map (λ v. v.object) s.versions) listed
          ∙ (sym (ap (λ b. not (is_some (if b then Some w'.owner else None))) d) ∙ ap (λ q. not (is_some (option_and_then (λ w. if same w.copy x.id then Some w.owner else None) q))) (sym k)))
          (λ d.
          let other : same x.id w'.copy ≡ false = flip w'.copy.0 x.id.0 ∙ d in
          let here : list_any (same x.id) (map (λ v. v.object) s.versions) || list_any (same x.id) (w'.copy ∷ []) ≡ true
          = sym (any_append (same x.id) (map (λ v. v.object) s.versions) (w'.copy ∷ [])) ∙ subst (λ q. list_any (same x.id) (map (λ v. v.object) s.versions ++ unwrap_or (option_map (λ w. w.copy ∷ []) q) []) ≡ true) k inside in
          left (list_any (same x.id) (map (λ v. v.object) s.versions)) (same x.id w'.copy || false) here (ap (λ b. b || false) other)
          ∙ (sym (ap (λ b. not (is_some (if b then Some w'.owner else None))) d) ∙ ap (λ q. not (is_some (option_and_then (λ w. if same w.copy x.id then Some w.owner else None) q))) (sym k)))

  number_rows : (m : Oid) (x : Object) → object_at r m ≡ Some x → (c : Oid) → list_any (same m) (rows_at r c) ≡ (same (entry_of x) c && not (is_some (owner_of r x)))
  number_rows m x there c = of x.series refl (belongs m x there) (series_at r c) refl
    where
      id : x.id ≡ m
      id = number_found r m x there

      other : (k : Oid) → x.series ≡ Some k → (k ≡ c → ⊥) → (same (entry_of x) c && not (is_some (owner_of r x))) ≡ false
      other k d h = ap (λ o. same (unwrap_or o x.id) c && not (is_some (owner_of r x))) d ∙ ap (λ b. b && not (is_some (owner_of r x))) (differ k c h)

      own : x.series ≡ None → (same (entry_of x) c && not (is_some (owner_of r x))) ≡ same x.id c
      own d = ap (λ o. same (unwrap_or o x.id) c && not (is_some (option_and_then (λ s. option_and_then (λ w. if same w.copy x.id then Some w.owner else None) s.working) (option_and_then (series_at r) o)))) d ∙ yes (same x.id c)
        where
          yes : (b : Bool) → b && true ≡ b
          yes b = grind arith

      of : (k : Option Oid) → x.series ≡ k → Belongs r x k → (o : Option Series) → series_at r c ≡ o → list_any (same m) (rows_at r c) ≡ (same (entry_of x) c && not (is_some (owner_of r x)))
      of (Some k) d b (Some s) e = by_test (same k c)
          (λ t.
          let at : k ≡ c = same_eq k c t in
          let series : x.series ≡ Some c = d ∙ ap Some at in
          let one : b.1.0 ≡ s = some_eq b.1.0 s (sym b.1.1 ∙ (ap (series_at r) at ∙ e)) in
          ap (λ o. list_any (same m) (rows_by r c o)) e
          ∙ (ap (λ n. list_any (same n) (map (λ v. v.object) s.versions)) (sym id)
          ∙ (version_row c s x e series (subst (λ q. list_any (same x.id) (members q) ≡ true) one b.1.2)
          ∙ sym (ap (λ o. same (unwrap_or o x.id) c && not (is_some (owner_of r x))) series ∙ ap (λ b. b && not (is_some (owner_of r x))) (same_refl c)))))
          (λ t.
          let apart : k ≡ c → ⊥ = λ at. both_ways (same k c) t (subst (λ z. same k z ≡ true) at (same_refl k)) in
          no_more (list_any (same m) (rows_at r c)) (λ h.
          let y = version_in c s m e (sym (ap (λ o. list_any (same m) (rows_by r c o)) e) ∙ h) in
          apart (some_eq k c (sym d ∙ (ap (λ (z : Object). z.series) (one_there r m x y.0 there y.1) ∙ y.2))))
          ∙ sym (other k d apart))
      of (Some k) d b None e =
          let apart : k ≡ c → ⊥ = λ at. none_some b.1.0 (sym e ∙ (ap (series_at r) (sym at) ∙ b.1.1)) in
          no_more (list_any (same m) (rows_at r c)) (λ h.
          let y = own_in c m (object_at r c) refl (sym (ap (λ o. list_any (same m) (rows_by r c o)) e) ∙ h) in
          none_some k (sym y.2 ∙ (ap (λ (z : Object). z.series) (sym (one_there r m x y.0 there y.1)) ∙ d)))
          ∙ sym (other k d apart)
      of None d b (Some s) e =
          let apart : x.id ≡ c → ⊥ = λ at. none_some c (sym d ∙ first_in c s x e (ap (object_at r) (sym at ∙ id) ∙ there)) in
          no_more (list_any (same m) (rows_at r c)) (λ h.
          let y = version_in c s m e (sym (ap (λ o. list_any (same m) (rows_by r c o)) e) ∙ h) in
          none_some c (sym d ∙ (ap (λ (z : Object). z.series) (one_there r m x y.0 there y.1) ∙ y.2)))
          ∙ sym (own d ∙ differ x.id c apart)
      of None d b None e = by_test (same x.id c)
          (λ t.
          let at : x.id ≡ c = same_eq x.id c t in
          let here : object_at r c ≡ Some x = ap (object_at r) (sym at ∙ id) ∙ there in
          ap (λ o. list_any (same m) (rows_by r c o)) e
          ∙ (ap (λ o. list_any (same m) (own_number o)) here
          ∙ (ap (λ o. list_any (same m) (if is_none o then x.id ∷ [] else [])) d
          ∙ (ap (λ b. b || false) (subst (λ n. same n x.id ≡ true) id (same_refl x.id)) ∙ sym (own d ∙ t)))))
          (λ t. no_more (list_any (same m) (rows_at r c)) (λ h.
          let y = own_in c m (object_at r c) refl (sym (ap (λ o. list_any (same m) (rows_by r c o)) e) ∙ h) in
          both_ways (same x.id c) t (subst (λ z. same x.id z ≡ true) (id ∙ y.3) (same_refl x.id)))
          ∙ sym (own d ∙ t))

  module _ (f : Oid) where
    filed_any : (m : Oid) → list_any (same m) (flat_map (rows_at r) (entries_in r f)) ≡ unwrap_or (option_map (is_filed_in r f) (object_at r m)) false
    filed_any m = any_flat (same m) (rows_at r) (entries_in r f) ∙ (any_entry (λ c. list_any (same m) (rows_at r c)) f r.filed ∙ by (object_at r m) refl)
      where
        turned : (a b c : Bool) → (a && (b && c)) ≡ ((a && b) && c)
        turned a b c = grind arith

        by : (o : Option Object) → object_at r m ≡ o → list_any (λ p. same p.folder f && list_any (same m) (rows_at r p.child)) r.filed ≡ unwrap_or (option_map (is_filed_in r f) o) false
        by None e = any_never (λ (p : Filed). same p.folder f && list_any (same m) (rows_at r p.child)) r.filed (λ p. ap (λ b. same p.folder f && b) (none_rows m p.child e) ∙ never (same p.folder f))
        by (Some x) e = any_by (λ (p : Filed). same p.folder f && list_any (same m) (rows_at r p.child)) (λ (p : Filed). (same p.folder f && same p.child (entry_of x)) && not (is_some (owner_of r x)))
            (λ p. ap (λ b. same p.folder f && b) (number_rows m x e p.child ∙ ap (λ b. b && not (is_some (owner_of r x))) (flip p.child.0 (entry_of x).0)) ∙ turned (same p.folder f) (same p.child (entry_of x)) (not (is_some (owner_of r x)))) r.filed
            ∙ any_and (λ (p : Filed). same p.folder f && same p.child (entry_of x)) (not (is_some (owner_of r x))) r.filed

    -- what is filed in the folder, in the order of the numbers
    pub filed_numbers : (ns : List Oid) → Rises (λ n. n.0) ns → ((m : Oid) → list_any (same m) ns ≡ list_any (same m) (flat_map (rows_at r) (entries_in r f))) → ns ≡ filed_in r f
    filed_numbers ns rises same_members = rising_filter (is_filed_in r f) r.objects ns w.numbers.0 rises (λ m. same_members m ∙ filed_any m)
