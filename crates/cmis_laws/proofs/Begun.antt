-- A document with its new series, and a working copy of a series, keep what is well formed.
use Rattle.std.specs.Prelude.{◌≡◌, ℕ, ◌+◌, ◌<◌, ◌≤◌, Bool, true, false, not, List, [], ◌∷◌, ◌++◌, All, Option, Some, None, IfSome, is_some, unwrap_or, option_map}
use Rattle.std.specs.List.{list_any}
use Rattle.std.proofs.Common.{refl, sym, ap, subst, ◌∙◌, inr, arith}
use Rattle.std.proofs.lemmas.List.Elements.{All-nil, All-cons, All-push, All-weaker}
use Rattle.cm_base.specs.declared.number.Oid.{Oid}
use Rattle.cm_base.specs.declared.object.Object.{Object}
use Rattle.cm_base.specs.declared.series.Series.{Series}
use Rattle.cm_base.specs.declared.access.Ace.{Ace}
use Rattle.cm_base.specs.declared.access.AccessList.{AccessList}
use Rattle.cm_types.specs.declared.definition.BaseType.TheVariants as bases
use Rattle.cm_types.specs.Types.{props_of}
use Rattle.cmis_spec.specs.Repository.{Repository, same, object_at, series_at, is_a, new_number, entry_of, entry_name}
use Rattle.cmis_spec.specs.Documents.{with_document}
use Rattle.cmis_spec.specs.Well.{Apart, Belongs, IsMember, members, HasSome, IsAlone, is_plain, is_version, IsAceList, IsAccess, is_listed, IsTyped, IsKept, OwnsValues, IsLabel, IsWellFormed}
use Rattle.cmis_laws.proofs.Lists.{any_pushed, any_new, find_more, find_last, find_passed_over, apart_push, all_zip, same_refl}
use Rattle.cmis_laws.proofs.Entries.{IsNamed, lists_below, is_other, is_other'}
use Rattle.cmis_laws.proofs.Joined.{joined, IsJoined, joined_keeps, name_stays, object_stays, object_new, access_stays, first_stays}

abbrev pub IsSeries : Repository → Series → Type 0
IsSeries r s = All (IsMember r s) (members s) × Apart (λ m n. same m n ≡ false) (members s) × HasSome s

abbrev pub IsPlainIn : Repository → Object → Type 0
IsPlainIn r y = is_plain r y ≡ true → IfSome y.series (λ n. IfSome (series_at r n) (λ s. IsAlone s y.id))

abbrev pub HasLabelsOf : ℕ → Series → Type 0
HasLabelsOf step s = All (λ v. IfSome v.label (IsLabel step)) s.versions

-- ---- a new document with its series

-- what a new document and its series must be
pub record IsNewDocument (r : Repository) (x : Object) (s : Series) (aces : List Ace) : Type 0 where
  pub number : x.id ≡ new_number r
  pub room : r.next ≤ r.step + 1
  pub base : is_a r bases.Document x ≡ true
  pub typed : IsTyped r.types x
  pub kept : IsKept r (props_of r.types x.kind x.secondary) x
  pub owned : OwnsValues r.types x
  pub token : x.token ≤ r.step
  pub series : x.series ≡ Some s.id
  pub first : s.id ≡ x.id
  pub alone : members s ≡ x.id ∷ []
  pub plain : is_plain r x ≡ true → IsAlone s x.id
  pub own : is_some x.name ≡ not (list_any (λ v. same v.object x.id) s.versions)
  pub labels : HasLabelsOf r.step s
  pub listed : IsAceList aces

module _ (r : Repository) (x : Object) (s : Series) (aces : List Ace) (w : IsWellFormed r) (f : IsNewDocument r x s aces) where
  abbrev ss : List Series
  ss = r.series ++ s ∷ []

  abbrev list : AccessList
  list = record { at = s.id; aces = aces }

  abbrev ls : List AccessList
  ls = r.access ++ list ∷ []

  number : x.id.0 ≡ r.next
  number = ap (λ n. n.0) f.number

  others : All (λ t. same t.id s.id ≡ false) r.series
  others = All-weaker (λ t. t.id.0 < r.next) (λ t. same t.id s.id ≡ false) (λ t l. let e : s.id.0 ≡ x.id.0 = ap (λ n. n.0) f.first in is_other t.id s.id (omega (arith, l, e, number))) r.series w.series_numbers.1

  series_new : series_at (joined r x ss ls) s.id ≡ Some s
  series_new = find_last (λ t. same t.id s.id) r.series s others (same_refl s.id)

  stays : (n : Oid) (t : Series) → series_at r n ≡ Some t → series_at (joined r x ss ls) n ≡ Some t
  stays n t h = find_more (λ u. same u.id n) r.series s t h

  nothing : (n : Oid) → n.0 < r.next → series_at r n ≡ None → series_at (joined r x ss ls) n ≡ None
  nothing n l h = find_passed_over (λ u. same u.id n) r.series s (subst (λ m. same m n ≡ false) (sym f.first) (is_other' n x.id (omega (arith, l, number)))) ∙ h

  new_there : object_at (joined r x ss ls) x.id ≡ Some x
  new_there = object_new r x ss ls w f.number

  member_new : IsMember (joined r x ss ls) s x.id
  member_new = (x, new_there, f.series)

  series_is : IsSeries (joined r x ss ls) s
  series_is = (
    subst (All (IsMember (joined r x ss ls) s)) (sym f.alone) (All-cons (IsMember (joined r x ss ls) s) x.id [] member_new (All-nil (IsMember (joined r x ss ls) s))),
    subst (Apart (λ m n. same m n ≡ false)) (sym f.alone) (All-nil (λ n. same x.id n ≡ false), tt),
    subst (λ ms. list_any (λ n. true) ms ≡ true) (sym f.alone) refl,
  )

  plain_old : (y : Object) → Belongs r y y.series → IsPlainIn r y → IsPlainIn (joined r x ss ls) y
  plain_old y b h e = by y.series b (h e)
    where
      by : (o : Option Oid) → Belongs r y o → IfSome o (λ n. IfSome (series_at r n) (λ s. IsAlone s y.id)) → IfSome o (λ n. IfSome (series_at (joined r x ss ls) n) (λ s. IsAlone s y.id))
      by None b h = tt
      by (Some n) b h = subst (λ o. IfSome o (λ s. IsAlone s y.id)) (b.1.1 ∙ sym (stays n b.1.0 b.1.1)) h

  plain_new : IsPlainIn (joined r x ss ls) x
  plain_new e = subst (λ o. IfSome o (λ n. IfSome (series_at (joined r x ss ls) n) (λ s. IsAlone s x.id))) (sym f.series)
      (subst (λ o. IfSome o (λ s. IsAlone s x.id)) (sym series_new) (f.plain e))

  abbrev version_by : Option Oid → Bool
  version_by o = unwrap_or (option_map (λ m. unwrap_or (option_map (λ s. list_any (λ v. same v.object x.id) s.versions) (series_at (joined r x ss ls) m)) false) o) false

  own_new : is_some x.name ≡ not (is_version (joined r x ss ls) x)
  own_new = f.own ∙ ap not (sym (ap version_by f.series ∙ ap (λ o. unwrap_or (option_map (λ s. list_any (λ v. same v.object x.id) s.versions) o) false) series_new))

  is_joined : IsJoined r x ss ls
  is_joined = record {
    number = f.number;
    room = f.room;
    base = f.base;
    typed = f.typed;
    kept = f.kept;
    owned = f.owned;
    token = f.token;
    rising = apart_push (λ t u. t.id.0 < u.id.0) r.series s w.series_numbers.0
        (All-weaker (λ t. t.id.0 < r.next) (λ t. t.id.0 < s.id.0) (λ t l. let e : s.id.0 ≡ x.id.0 = ap (λ n. n.0) f.first in omega (arith, l, e, number)) r.series w.series_numbers.1);
    below = All-push (λ t. t.id.0 < r.next + 1) r.series s (All-weaker (λ t. t.id.0 < r.next) (λ t. t.id.0 < r.next + 1) (λ t l. omega (arith, l)) r.series w.series_numbers.1)
        (let e : s.id.0 ≡ x.id.0 = ap (λ n. n.0) f.first in omega (arith, e, number));
    stays = λ n t h. (t, stays n t h, record { name = refl; versions = refl; more = λ m k. k });
    nothing = nothing;
    firsts = All-push (λ t. IfSome (object_at (joined r x ss ls) t.id) (λ y. y.series ≡ Some t.id)) r.series s
        (all_zip (λ t. t.id.0 < r.next) (λ t. IfSome (object_at r t.id) (λ y. y.series ≡ Some t.id)) (λ t. IfSome (object_at (joined r x ss ls) t.id) (λ y. y.series ≡ Some t.id)) r.series
        (λ t l h. first_stays r x ss ls w f.number t l h) w.series_numbers.1 w.firsts)
        (subst (λ o. IfSome o (λ y. y.series ≡ Some s.id)) (sym (ap (object_at (joined r x ss ls)) f.first ∙ new_there)) f.series);
    belongs = subst (Belongs (joined r x ss ls) x) (sym f.series) (f.base, (s, series_new, subst (λ ms. list_any (same x.id) ms ≡ true) (sym f.alone) (rw (same_refl x.id) refl)));
    series = All-push (IsSeries (joined r x ss ls)) r.series s
        (All-weaker (IsSeries r) (IsSeries (joined r x ss ls)) (λ t l. (All-weaker (IsMember r t) (IsMember (joined r x ss ls) t) (λ n m. (m.0, object_stays r x ss ls w f.number n m.0 m.1, m.2)) (members t) l.0, l.1, l.2)) r.series w.series)
        series_is;
    plain = All-push (IsPlainIn (joined r x ss ls)) r.objects x
        (all_zip (λ y. Belongs r y y.series) (IsPlainIn r) (IsPlainIn (joined r x ss ls)) r.objects plain_old w.documents w.plain) plain_new;
    own = own_new;
    labels = All-push (HasLabelsOf r.step) r.series s w.labels f.labels;
    lists = (
      apart_push (λ k l. k.at.0 < l.at.0) r.access list w.access.0
          (All-weaker (λ l. l.at.0 < r.next) (λ l. l.at.0 < s.id.0) (λ l m. let e : s.id.0 ≡ x.id.0 = ap (λ n. n.0) f.first in omega (arith, m, e, number)) r.access (lists_below r w.numbers w.series_numbers w.access)),
      All-push (IsAccess (joined r x ss ls)) r.access list
          (All-weaker (IsAccess r) (IsAccess (joined r x ss ls)) (access_stays r x ss ls w f.number (λ n t h. (t, stays n t h))) r.access w.access.1) (inr (s, series_new), f.listed),
    );
    listed = All-push (λ y. is_listed ls (entry_of y) ≡ true) r.objects x
        (All-weaker (λ y. is_listed r.access (entry_of y) ≡ true) (λ y. is_listed ls (entry_of y) ≡ true) (λ y h. any_pushed (λ l. same l.at (entry_of y)) r.access list h) r.objects w.listed)
        (any_new (λ l. same l.at (entry_of x)) r.access list (ap (λ o. same s.id (unwrap_or o x.id)) f.series ∙ same_refl s.id));
  }

  pub document_keeps : IsWellFormed (with_document r x s aces)
  document_keeps = joined_keeps r x ss ls w is_joined

  -- what is there is there, and keeps its name
  pub document_stays : (n : Oid) (y : Object) → object_at r n ≡ Some y → object_at (with_document r x s aces) n ≡ Some y
  document_stays n y h = object_stays r x ss ls w f.number n y h

  pub document_there : object_at (with_document r x s aces) x.id ≡ Some x
  document_there = new_there

  pub document_series : series_at (with_document r x s aces) s.id ≡ Some s
  document_series = series_new

  pub document_names : (n : Oid) → IsNamed r n → entry_name (with_document r x s aces) n ≡ entry_name r n
  document_names n h = name_stays r x ss ls w is_joined n h
