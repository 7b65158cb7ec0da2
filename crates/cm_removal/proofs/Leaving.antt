-- What is filed, named and listed for access, and goes with the objects.
use Rattle.std.specs.Prelude.{◌≡◌, Bool, true, false, ◌&&◌, ◌||◌, not, ◌⊎◌, List, [], ◌∷◌, map, filter, All, Option, Some, None, IfSome, unwrap_or, option_map}
use Rattle.std.specs.List.{list_any}
use Rattle.std.proofs.Common.{refl, sym, ap, subst, ◌∙◌, inl, inr, arith}
use Rattle.std.proofs.lemmas.Bool.{both_ways}
use Rattle.std.proofs.lemmas.List.Elements.{All-nil, All-cons, All-head, All-tail, All-weaker}
use Rattle.cm_base.specs.declared.number.Oid.{Oid}
use Rattle.cm_base.specs.declared.object.Object.{Object}
use Rattle.cm_base.specs.declared.series.Series.{Series}
use Rattle.cm_base.specs.declared.filing.Filed.{Filed}
use Rattle.cm_types.specs.declared.definition.BaseType.TheVariants as bases
use Rattle.cmis_spec.specs.Repository.{Repository, same, object_at, series_at, is_a, entry_of}
use Rattle.cmis_spec.specs.Removal.{left_in, has_members, entry_goes, among}
use Rattle.cmis_spec.specs.Well.{IsEntryAt, IsSeriesAt, IsAloneAt, IsPair, IsAccess, IsMember, Belongs, members, IsWellFormed}
use Rattle.cmis_laws.proofs.Lists.{by_test, found_holds, all_zip, same_eq, same_refl}
use Rattle.cmis_laws.proofs.Entries.{not_both, number_found, series_found}
use Rattle.cmis_laws.proofs.Begun.{IsSeries}
use Rattle.cm_state.specs.Looks.{folders_in}
use Rattle.cm_removal.specs.Steps.{entry_at, is_pair_of}
use Rattle.cm_removal.proofs.Lefts.{unchanged}

-- ---- lists

-- what holds of one that passes
any_holds : {A G : Type 0} (P : A → Type 0) (p : A → Bool) (xs : List A) → All P xs → list_any p xs ≡ true → ((x : A) → P x → p x ≡ true → G) → G
any_holds P p [] all h f = absurd (both_ways false refl h)
any_holds P p (x ∷ xs) all h f = by_test (p x) (λ e. f x (All-head P x xs all) e) (λ e. any_holds P p xs (All-tail P x xs all) (rw e at h) f)

among_map : (f : Oid → Oid) (ns : List Oid) (m n : Oid) → among ns m ≡ true → f m ≡ n → among (map f ns) n ≡ true
among_map f [] m n h e = absurd (both_ways false refl h)
among_map f (k ∷ ns) m n h e = by_test (same m k)
    (λ t. ap (λ b. b || among (map f ns) n) (ap (same n) (ap f (sym (same_eq m k t)) ∙ e) ∙ same_refl n))
    (λ t. by_test (same n (f k)) (λ d. rw d refl) (λ d. rw d (among_map f ns m n (sym (ap (λ b. b || among ns m) t) ∙ h) e)))

among_filtered : (q : Oid → Bool) (n : Oid) (ns : List Oid) → among (filter q ns) n ≡ (q n && among ns n)
among_filtered q n [] = never (q n)
  where
    never : (b : Bool) → false ≡ (b && false)
    never b = grind arith
among_filtered q n (m ∷ ns) = by_test (q m)
    (λ e. rw e (by_test (same n m)
    (λ d. let own : q n ≡ true = ap q (same_eq n m d) ∙ e in rw (d, own) refl)
    (λ d. rw d (among_filtered q n ns))))
    (λ e. rw e (by_test (same n m)
    (λ d. let own : q n ≡ false = ap q (same_eq n m d) ∙ e in rw d (among_filtered q n ns ∙ (ap (λ b. b && among ns n) own ∙ sym (ap (λ b. b && true) own))))
    (λ d. rw d (among_filtered q n ns))))

module _ (r : Repository) (w : IsWellFormed r) (gs : List Oid) where
  abbrev gone : Oid → Bool
  gone = among gs

  -- ---- entries of what goes

  -- what is no document has no series' number
  no_series : (n : Oid) (y : Object) → object_at r n ≡ Some y → is_a r bases.Document y ≡ false → series_at r n ≡ None
  no_series n y there other = by (series_at r n) refl
    where
      by : (o : Option Series) → series_at r n ≡ o → series_at r n ≡ None
      by None e = e
      by (Some s) e =
          let at : s.id ≡ n = series_found r n s e in
          let first : IfSome (object_at r s.id) (λ z. z.series ≡ Some s.id) = found_holds (λ t. IfSome (object_at r t.id) (λ z. z.series ≡ Some t.id)) (λ t. same t.id n) r.series s w.firsts e in
          let own : y.series ≡ Some s.id = subst (λ o. IfSome o (λ z. z.series ≡ Some s.id)) (ap (object_at r) at ∙ there) first in
          let belongs : Belongs r y (Some s.id) = subst (Belongs r y) own (found_holds (λ z. Belongs r z z.series) (λ z. same z.id n) r.objects y w.documents there) in
          absurd (both_ways (is_a r bases.Document y) other belongs.0)

  -- and is its own entry
  own_entry : (n : Oid) (y : Object) → object_at r n ≡ Some y → is_a r bases.Document y ≡ false → entry_at r n ≡ n
  own_entry n y there other = ap (λ o. unwrap_or (option_map entry_of o) n) there ∙ by y.series (found_holds (λ z. Belongs r z z.series) (λ z. same z.id n) r.objects y w.documents there)
    where
      by : (o : Option Oid) → Belongs r y o → unwrap_or o y.id ≡ n
      by None b = number_found r n y there
      by (Some m) b = absurd (both_ways (is_a r bases.Document y) other b.0)

  member_entry : (s : Series) (m : Oid) → IsMember r s m → entry_at r m ≡ s.id
  member_entry s m h = ap (λ o. unwrap_or (option_map entry_of o) m) h.1 ∙ ap (λ o. unwrap_or o h.0.id) h.2

  -- a series that loses a document is such an entry
  loses : (s : Series) → IsSeries r s → list_any gone (members s) ≡ true → among (map (entry_at r) gs) s.id ≡ true
  loses s k h = any_holds (IsMember r s) gone (members s) k.0 h (λ m l e. among_map (entry_at r) gs m s.id e (member_entry s m l))

  goes_as : (n : Oid) (s : Series) → IsSeries r s → entry_goes r gone n ≡ true → series_at r n ≡ Some s → list_any gone (members s) ≡ true
  goes_as n s k h e = by_test (list_any gone (members s)) (λ t. t)
      (λ t. absurd (both_ways false refl (sym (ap (λ o. unwrap_or (option_map (λ s. not (has_members (left_in gone s))) o) (gone n)) e ∙ (ap (λ u. not (has_members u)) (unchanged gone s t) ∙ ap not k.2)) ∙ h)))

  goes_among : (n : Oid) → IsAloneAt r n ⊎ IsSeriesAt r n → entry_goes r gone n ≡ true → among (map (entry_at r) gs) n ≡ true
  goes_among n (inl a) h = among_map (entry_at r) gs n n
      (sym (ap (λ o. unwrap_or (option_map (λ s. not (has_members (left_in gone s))) o) (gone n)) (no_series n a.0 a.1 a.2)) ∙ h) (own_entry n a.0 a.1 a.2)
  goes_among n (inr s) h =
      let k : IsSeries r s.0 = found_holds (IsSeries r) (λ t. same t.id n) r.series s.0 w.series s.1 in
      subst (λ m. among (map (entry_at r) gs) m ≡ true) (series_found r n s.0 s.1) (loses s.0 k (goes_as n s.0 k h s.1))

  is_alone : (n : Oid) → IsEntryAt r n → IsAloneAt r n ⊎ IsSeriesAt r n
  is_alone n (inl f) = inl (f.0, f.1, not_both r f.0 bases.Folder bases.Document refl f.2)
  is_alone n (inr (inl i)) = inl (i.0, i.1, not_both r i.0 bases.Item bases.Document refl i.2)
  is_alone n (inr (inr s)) = inr s

  -- ---- with the list of these entries

  module _ (es : List Oid) (are : (n : Oid) → among es n ≡ among (map (entry_at r) gs) n) where
    abbrev leaving : List Oid
    leaving = filter (entry_goes r gone) es

    goes_is : (n : Oid) → IsAloneAt r n ⊎ IsSeriesAt r n → among leaving n ≡ entry_goes r gone n
    goes_is n h = among_filtered (entry_goes r gone) n es ∙ by_test (entry_goes r gone n)
        (λ e. rw e (are n ∙ goes_among n h e))
        (λ e. rw e refl)

    pub series_unchanged : All (λ s. among es s.id ≡ false → left_in gone s ≡ s) r.series
    series_unchanged = All-weaker (IsSeries r) (λ s. among es s.id ≡ false → left_in gone s ≡ s)
        (λ s k h. unchanged gone s (by_test (list_any gone (members s)) (λ e. absurd (both_ways (among es s.id) h (are s.id ∙ loses s k e))) (λ e. e))) r.series w.series

    -- ---- pairs

    abbrev folders_among : List Filed → Oid → List Oid
    folders_among ps n = map (λ (q : Filed). q.folder) (filter (λ (q : Filed). same q.child n) ps)

    abbrev IsIn : List Filed → Filed → Type 0
    IsIn ps p = among (folders_among ps p.child) p.folder ≡ true

    in_own : (ps : List Filed) → All (IsIn ps) ps
    in_own [] = All-nil (IsIn [])
    in_own (p ∷ ps) = All-cons (IsIn (p ∷ ps)) p ps
        (rw (same_refl p.child) (ap (λ b. b || among (folders_among ps p.child) p.folder) (same_refl p.folder)))
        (All-weaker (IsIn ps) (IsIn (p ∷ ps)) (λ q h. by_test (same p.child q.child) (λ e. rw e (by_test (same q.folder p.folder) (λ d. rw d refl) (λ d. rw d h))) (λ e. rw e h)) ps (in_own ps))

    pair_any : (p : Filed) → among (folders_in r p.child) p.folder ≡ true → (ns : List Oid) → list_any (is_pair_of r p) ns ≡ among ns p.child
    pair_any p own [] = refl
    pair_any p own (n ∷ ns) = by_test (same p.child n)
        (λ e. let there : among (folders_in r n) p.folder ≡ true = subst (λ m. among (folders_in r m) p.folder ≡ true) (same_eq p.child n e) own in rw (there, e) refl)
        (λ e. rw e (never (among (folders_in r n) p.folder) (list_any (is_pair_of r p) ns) ∙ pair_any p own ns))
      where
        never : (a b : Bool) → (a && false || b) ≡ b
        never a b = grind arith

    pub pairs_go : All (λ p. list_any (is_pair_of r p) leaving ≡ entry_goes r gone p.child) r.filed
    pairs_go = all_zip (λ p. among (folders_in r p.child) p.folder ≡ true) (IsPair r) (λ p. list_any (is_pair_of r p) leaving ≡ entry_goes r gone p.child) r.filed
        (λ p own l. pair_any p own leaving ∙ goes_is p.child (is_alone p.child l.1)) (in_own r.filed) w.pairs

    -- ---- access lists

    pub lists_go : All (λ l. among leaving l.at ≡ entry_goes r gone l.at) r.access
    lists_go = All-weaker (IsAccess r) (λ l. among leaving l.at ≡ entry_goes r gone l.at) (λ l h. goes_is l.at h.0) r.access w.access.1
