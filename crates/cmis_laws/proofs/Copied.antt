-- A working copy of a series keeps what is well formed.
use Rattle.std.specs.Prelude.{◌≡◌, ℕ, ◌+◌, ◌<◌, ◌≤◌, Bool, true, false, not, if◌then◌else◌, List, [], ◌∷◌, ◌++◌, map, All, Option, Some, None, IfSome, is_some, unwrap_or, option_map}
use Rattle.std.specs.List.{list_any}
use Rattle.std.proofs.Common.{refl, sym, ap, subst, ◌∙◌, arith}
use Rattle.std.proofs.lemmas.Bool.{both_ways}
use Rattle.std.proofs.lemmas.List.{append-nil}
use Rattle.std.proofs.lemmas.List.Elements.{All-nil, All-cons, All-head, All-tail, All-push, All-weaker, All-map}
use Rattle.cm_base.specs.declared.number.Oid.{Oid}
use Rattle.cm_base.specs.declared.object.Object.{Object}
use Rattle.cm_base.specs.declared.series.Series.{Series}
use Rattle.cm_base.specs.declared.series.WorkingCopy.{WorkingCopy}
use Rattle.cm_base.specs.declared.series.DocumentVersion.{DocumentVersion}
use Rattle.cm_base.specs.declared.access.AccessList.{AccessList}
use Rattle.cm_types.specs.declared.definition.BaseType.TheVariants as bases
use Rattle.cm_types.specs.Types.{props_of}
use Rattle.cmis_spec.specs.Repository.{Repository, same, object_at, series_at, is_a, new_number, entry_of}
use Rattle.cmis_spec.specs.Documents.{with_copy, checked_out}
use Rattle.cmis_spec.specs.Well.{Apart, Belongs, IsMember, members, IsAlone, is_plain, is_version, IsAccess, is_listed, IsTyped, IsKept, OwnsValues, IsLabel, IsWellFormed}
use Rattle.cmis_laws.proofs.Lists.{by_test, find_alike, found_holds, some_eq, all_found, apart_push, apart_map, apart_weaker, all_zip, same_eq, same_refl}
use Rattle.cmis_laws.proofs.Entries.{is_other, object_below, series_found}
use Rattle.cmis_laws.proofs.Kept.{find_mapped}
use Rattle.cmis_laws.proofs.Begun.{IsSeries, IsPlainIn, HasLabelsOf}
use Rattle.cmis_laws.proofs.Listing.{series_listed}
use Rattle.cmis_laws.proofs.Joined.{joined, IsGrown, joined_keeps, object_stays, object_new, access_stays, first_stays}

-- what a working copy and its series must be
pub record IsNewCopy (r : Repository) (s : Series) (x : Object) : Type 0 where
  pub number : x.id ≡ new_number r
  pub room : r.next ≤ r.step + 1
  pub base : is_a r bases.Document x ≡ true
  pub typed : IsTyped r.types x
  pub kept : IsKept r (props_of r.types x.kind x.secondary) x
  pub owned : OwnsValues r.types x
  pub token : x.token ≤ r.step
  pub named : is_some x.name ≡ true
  pub series : x.series ≡ Some s.id
  pub there : series_at r s.id ≡ Some s
  pub free : s.working ≡ None
  -- it is versionable, and so is each document of the series
  pub versionable : is_plain r x ≡ false
  pub versioned : All (λ y. y.series ≡ Some s.id → is_plain r y ≡ false) r.objects

module _ (r : Repository) (s : Series) (x : Object) (owner : List ℕ) (w : IsWellFormed r) (f : IsNewCopy r s x) where
  abbrev put : Series → Series
  put t = if same t.id s.id then checked_out x.id owner t else t

  abbrev ss : List Series
  ss = map put r.series

  abbrev ls : List AccessList
  ls = r.access

  number : x.id.0 ≡ r.next
  number = ap (λ n. n.0) f.number

  put_yes : (t : Series) → same t.id s.id ≡ true → put t ≡ checked_out x.id owner t
  put_yes t h = rw h refl

  put_no : (t : Series) → same t.id s.id ≡ false → put t ≡ t
  put_no t h = rw h refl

  put_id : (t : Series) → (put t).id ≡ t.id
  put_id t = by_test (same t.id s.id) (λ e. ap (λ u. u.id) (put_yes t e)) (λ e. ap (λ u. u.id) (put_no t e))

  put_versions : (t : Series) → (put t).versions ≡ t.versions
  put_versions t = by_test (same t.id s.id) (λ e. ap (λ u. u.versions) (put_yes t e)) (λ e. ap (λ u. u.versions) (put_no t e))

  put_name : (t : Series) → (put t).name ≡ t.name
  put_name t = by_test (same t.id s.id) (λ e. ap (λ u. u.name) (put_yes t e)) (λ e. ap (λ u. u.name) (put_no t e))

  series_put : (n : Oid) → series_at (joined r x ss ls) n ≡ option_map put (series_at r n)
  series_put n = find_mapped put (λ t. same t.id n) r.series
      ∙ ap (option_map put) (find_alike (λ t. same (put t).id n) (λ t. same t.id n) r.series (alike r.series))
    where
      alike : (ts : List Series) → All (λ t. same (put t).id n ≡ same t.id n) ts
      alike [] = All-nil (λ t. same (put t).id n ≡ same t.id n)
      alike (t ∷ ts) = All-cons (λ t. same (put t).id n ≡ same t.id n) t ts (ap (λ m. same m n) (put_id t)) (alike ts)

  -- the series with the number of this one is this one
  one : (t : Series) → series_at r t.id ≡ Some t → same t.id s.id ≡ true → t ≡ s
  one t h e = some_eq t s (sym h ∙ (ap (series_at r) (same_eq t.id s.id e) ∙ f.there))

  members_in : members s ≡ map (λ v. v.object) s.versions
  members_in = ap (λ o. map (λ v. v.object) s.versions ++ unwrap_or (option_map (λ (c : WorkingCopy). c.copy ∷ []) o) []) f.free ∙ append-nil (map (λ v. v.object) s.versions)

  -- the documents of the series, and the copy
  members_out : members (checked_out x.id owner s) ≡ members s ++ x.id ∷ []
  members_out = ap (λ ms. ms ++ x.id ∷ []) (sym members_in)

  any_more : (n : Oid) (ms : List Oid) → list_any (same n) ms ≡ true → list_any (same n) (ms ++ x.id ∷ []) ≡ true
  any_more n [] h = absurd (both_ways false refl h)
  any_more n (m ∷ ms) h = by_test (same n m) (λ e. rw e refl) (λ e. rw e (any_more n ms (rw e at h)))

  any_last : (ms : List Oid) → list_any (same x.id) (ms ++ x.id ∷ []) ≡ true
  any_last [] = rw (same_refl x.id) refl
  any_last (m ∷ ms) = by_test (same x.id m) (λ e. rw e refl) (λ e. rw e (any_last ms))

  more : (t : Series) → series_at r t.id ≡ Some t → (n : Oid) → list_any (same n) (members t) ≡ true → list_any (same n) (members (put t)) ≡ true
  more t there n h = by_test (same t.id s.id)
      (λ e. let at : t ≡ s = one t there e in
      subst (λ u. list_any (same n) (members u) ≡ true) (sym (put_yes t e))
      (subst (λ u. list_any (same n) (members (checked_out x.id owner u)) ≡ true) (sym at)
      (subst (λ ms. list_any (same n) ms ≡ true) (sym members_out) (any_more n (members s) (subst (λ u. list_any (same n) (members u) ≡ true) at h)))))
      (λ e. subst (λ u. list_any (same n) (members u) ≡ true) (sym (put_no t e)) h)

  found : (n : Oid) (t : Series) → series_at r n ≡ Some t → series_at r t.id ≡ Some t
  found n t h = ap (series_at r) (series_found r n t h) ∙ h

  stays : (n : Oid) (t : Series) → series_at r n ≡ Some t → (u : Series) × (series_at (joined r x ss ls) n ≡ Some u) × IsGrown t u
  stays n t h = (put t, series_put n ∙ ap (option_map put) h, record { name = put_name t; versions = put_versions t; more = more t (found n t h) })

  series_out : series_at (joined r x ss ls) s.id ≡ Some (checked_out x.id owner s)
  series_out = series_put s.id ∙ (ap (option_map put) f.there ∙ ap Some (put_yes s (same_refl s.id)))

  -- ---- members

  member_stays : (t : Series) (n : Oid) → IsMember r t n → IsMember (joined r x ss ls) t n
  member_stays t n m = (m.0, object_stays r x ss ls w f.number n m.0 m.1, m.2)

  member_below : (t : Series) (n : Oid) → IsMember r t n → same n x.id ≡ false
  member_below t n m = let l : n.0 < r.next = object_below r n m.0 w.numbers m.1 in is_other n x.id (omega (arith, l, number))

  series_old : (t : Series) → IsSeries r t → IsSeries (joined r x ss ls) t
  series_old t l = (All-weaker (IsMember r t) (IsMember (joined r x ss ls) t) (member_stays t) (members t) l.0, l.1, l.2)

  some_more : (ms : List Oid) → list_any (λ n. true) (ms ++ x.id ∷ []) ≡ true
  some_more [] = refl
  some_more (m ∷ ms) = refl

  series_grown : IsSeries r s → IsSeries (joined r x ss ls) (checked_out x.id owner s)
  series_grown l = (
    subst (All (IsMember (joined r x ss ls) s)) (sym members_out) (All-push (IsMember (joined r x ss ls) s) (members s) x.id (series_old s l).0 (x, object_new r x ss ls w f.number, f.series)),
    subst (Apart (λ m n. same m n ≡ false)) (sym members_out) (apart_push (λ m n. same m n ≡ false) (members s) x.id l.1 (All-weaker (IsMember r s) (λ n. same n x.id ≡ false) (member_below s) (members s) l.0)),
    subst (λ ms. list_any (λ n. true) ms ≡ true) (sym members_out) (some_more (members s)),
  )

  series_put_is : (t : Series) → series_at r t.id ≡ Some t → IsSeries r t → IsSeries (joined r x ss ls) (put t)
  series_put_is t there l = by_test (same t.id s.id)
      (λ e. let at : t ≡ s = one t there e in
      subst (IsSeries (joined r x ss ls)) (sym (put_yes t e)) (subst (λ u. IsSeries (joined r x ss ls) (checked_out x.id owner u)) (sym at) (series_grown (subst (IsSeries r) at l))))
      (λ e. subst (IsSeries (joined r x ss ls)) (sym (put_no t e)) (series_old t l))

  -- ---- plain documents are in other series

  plain_old : (y : Object) → (y.series ≡ Some s.id → is_plain r y ≡ false) → Belongs r y y.series → IsPlainIn r y → IsPlainIn (joined r x ss ls) y
  plain_old y versioned b h e = by y.series (λ k. both_ways (is_plain r y) (versioned k) e) b (h e)
    where
      by : (o : Option Oid) → (o ≡ Some s.id → ⊥) → Belongs r y o → IfSome o (λ n. IfSome (series_at r n) (λ s. IsAlone s y.id)) → IfSome o (λ n. IfSome (series_at (joined r x ss ls) n) (λ s. IsAlone s y.id))
      by None other b h = tt
      by (Some n) other b h =
          let t : Series = b.1.0 in
          let apart : same t.id s.id ≡ false = by_test (same t.id s.id) (λ k. absurd (other (ap Some (sym (series_found r n t b.1.1) ∙ same_eq t.id s.id k)))) (λ k. k) in
          subst (λ o. IfSome o (λ s. IsAlone s y.id)) (sym (series_put n ∙ (ap (option_map put) b.1.1 ∙ ap Some (put_no t apart)))) (subst (λ o. IfSome o (λ s. IsAlone s y.id)) b.1.1 h)

  -- ---- the copy is no version

  none_of : (vs : List DocumentVersion) → All (λ n. same n x.id ≡ false) (map (λ v. v.object) vs) → list_any (λ v. same v.object x.id) vs ≡ false
  none_of [] a = refl
  none_of (v ∷ vs) a = rw (All-head (λ n. same n x.id ≡ false) v.object (map (λ v. v.object) vs) a) (none_of vs (All-tail (λ n. same n x.id ≡ false) v.object (map (λ v. v.object) vs) a))

  here : IsSeries r s
  here = found_holds (IsSeries r) (λ t. same t.id s.id) r.series s w.series f.there

  no_version : list_any (λ v. same v.object x.id) s.versions ≡ false
  no_version = none_of s.versions (subst (All (λ n. same n x.id ≡ false)) members_in (All-weaker (IsMember r s) (λ n. same n x.id ≡ false) (member_below s) (members s) here.0))

  abbrev version_by : Option Oid → Bool
  version_by o = unwrap_or (option_map (λ m. unwrap_or (option_map (λ s. list_any (λ v. same v.object x.id) s.versions) (series_at (joined r x ss ls) m)) false) o) false

  own_new : is_some x.name ≡ not (is_version (joined r x ss ls) x)
  own_new = f.named ∙ ap not (sym (ap version_by f.series ∙ (ap (λ o. unwrap_or (option_map (λ s. list_any (λ v. same v.object x.id) s.versions) o) false) series_out ∙ no_version)))

  -- ---- all

  pub copy_keeps : IsWellFormed (with_copy r s.id x owner)
  copy_keeps = joined_keeps r x ss ls w (record {
    number = f.number;
    room = f.room;
    base = f.base;
    typed = f.typed;
    kept = f.kept;
    owned = f.owned;
    token = f.token;
    rising = apart_map (λ t u. t.id.0 < u.id.0) put r.series (apart_weaker (λ t. t.id.0 < r.next) (λ t u. t.id.0 < u.id.0) (λ t u. (put t).id.0 < (put u).id.0) r.series
        (λ t u a b l. let d : (put t).id.0 ≡ t.id.0 = ap (λ n. n.0) (put_id t) in let e : (put u).id.0 ≡ u.id.0 = ap (λ n. n.0) (put_id u) in omega (arith, d, e, l)) w.series_numbers.1 w.series_numbers.0);
    below = All-map (λ t. t.id.0 < r.next + 1) put r.series
        (All-weaker (λ t. t.id.0 < r.next) (λ t. (put t).id.0 < r.next + 1) (λ t l. let e : (put t).id.0 ≡ t.id.0 = ap (λ n. n.0) (put_id t) in omega (arith, e, l)) r.series w.series_numbers.1);
    stays = stays;
    nothing = λ n l h. series_put n ∙ ap (option_map put) h;
    firsts = All-map (λ t. IfSome (object_at (joined r x ss ls) t.id) (λ y. y.series ≡ Some t.id)) put r.series
        (all_zip (λ t. t.id.0 < r.next) (λ t. IfSome (object_at r t.id) (λ y. y.series ≡ Some t.id)) (λ t. IfSome (object_at (joined r x ss ls) (put t).id) (λ y. y.series ≡ Some (put t).id)) r.series
        (λ t l h. subst (λ n. IfSome (object_at (joined r x ss ls) n) (λ y. y.series ≡ Some n)) (sym (put_id t)) (first_stays r x ss ls w f.number t l h)) w.series_numbers.1 w.firsts);
    belongs = subst (Belongs (joined r x ss ls) x) (sym f.series) (f.base, (checked_out x.id owner s, series_out, subst (λ ms. list_any (same x.id) ms ≡ true) (sym members_out) (any_last (members s))));
    series = All-map (IsSeries (joined r x ss ls)) put r.series
        (all_zip (λ t. series_at r t.id ≡ Some t) (IsSeries r) (λ t. IsSeries (joined r x ss ls) (put t)) r.series series_put_is (all_found (λ t. t.id) r.series w.series_numbers.0) w.series);
    plain = All-push (IsPlainIn (joined r x ss ls)) r.objects x
        (all_zip (λ y. y.series ≡ Some s.id → is_plain r y ≡ false) (λ y. Belongs r y y.series × IsPlainIn r y) (IsPlainIn (joined r x ss ls)) r.objects (λ y v h. plain_old y v h.0 h.1) f.versioned
        (all_zip (λ y. Belongs r y y.series) (IsPlainIn r) (λ y. Belongs r y y.series × IsPlainIn r y) r.objects (λ y b h. (b, h)) w.documents w.plain))
        (λ e. absurd (both_ways (is_plain r x) f.versionable e));
    own = own_new;
    labels = All-map (HasLabelsOf r.step) put r.series
        (All-weaker (HasLabelsOf r.step) (λ t. HasLabelsOf r.step (put t)) (λ t h. subst (All (λ v. IfSome v.label (IsLabel r.step))) (sym (put_versions t)) h) r.series w.labels);
    lists = (w.access.0, All-weaker (IsAccess r) (IsAccess (joined r x ss ls)) (access_stays r x ss ls w f.number (λ n t h. let u = stays n t h in (u.0, u.1))) r.access w.access.1);
    listed = All-push (λ y. is_listed r.access (entry_of y) ≡ true) r.objects x w.listed
        (subst (λ o. is_listed r.access (unwrap_or o x.id) ≡ true) (sym f.series) (series_listed r s w.listed here));
  })
