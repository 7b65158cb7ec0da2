-- A series under another name, which is free in each of its folders: all else stays.
use Rattle.std.specs.Prelude.{◌≡◌, ℕ, ◌<◌, Bool, true, false, not, ◌&&◌, if◌then◌else◌, List, [], ◌∷◌, length, All, Contains, Option, Some, None, IfSome, is_some, unwrap_or, option_map, option_and_then, bytes_eq}
use Rattle.std.specs.List.{list_any}
use Rattle.std.proofs.Common.{refl, sym, ap, subst, ◌∙◌, inl, inr, arith}
use Rattle.std.proofs.lemmas.Bool.{both_ways}
use Rattle.std.proofs.lemmas.List.Elements.{All-nil, All-cons, All-map, All-weaker, All-contains, All-contains_itself}
use Rattle.cm_base.specs.declared.number.Oid.{Oid}
use Rattle.cm_base.specs.declared.object.Object.{Object}
use Rattle.cm_base.specs.declared.filing.Filed.{Filed}
use Rattle.cm_base.specs.declared.series.Series.{Series}
use Rattle.cm_base.specs.declared.access.AccessList.{AccessList}
use Rattle.cm_types.specs.Types.{props_of}
use Rattle.cmis_spec.specs.Repository.{Repository, same, object_at, series_at, entry_name, is_taken}
use Rattle.cmis_spec.specs.Changes.{series_edited}
use Rattle.cmis_spec.specs.Well.{Apart, IsEntryAt, IsPair, Differ, Belongs, members, IsMember, IsAlone, is_version, IsAccess, IsKept, IsWellFormed}
use Rattle.cmis_laws.proofs.Lists.{by_test, find_alike, bytes_turned, apart_map, apart_weaker, all_from_any, all_zip, same_eq, same_refl}
use Rattle.cmis_laws.proofs.Entries.{series_found}
use Rattle.cmis_laws.proofs.Begun.{IsSeries, IsPlainIn, HasLabelsOf}
use Rattle.cmis_laws.proofs.Kept.{find_mapped, kept_anywhere, bytes_same}
use Rattle.cm_series.specs.Series.{under_name}

module _ (r : Repository) (s : Series) (name : List ℕ) (w : IsWellFormed r) (there : series_at r s.id ≡ Some s) (free : All (λ p. same p.child s.id ≡ true → is_taken r p.folder s.id name ≡ false) r.filed) where
  abbrev after : Repository
  after = series_edited r s.id (under_name name)

  abbrev set : Series → Series
  set t = if same t.id s.id then under_name name t else t

  set_yes : (t : Series) → same t.id s.id ≡ true → set t ≡ under_name name t
  set_yes t h = rw h refl

  set_no : (t : Series) → same t.id s.id ≡ false → set t ≡ t
  set_no t h = rw h refl

  -- but for the name it is the same series
  by_name : {A : Type 0} (f : Series → A) (t : Series) → f (under_name name t) ≡ f t → f (set t) ≡ f t
  by_name f t h = by_test (same t.id s.id) (λ e. ap f (set_yes t e) ∙ h) (λ e. ap f (set_no t e))

  set_id : (t : Series) → (set t).id ≡ t.id
  set_id t = by_name (λ t. t.id) t refl

  members_set : (t : Series) → members (set t) ≡ members t
  members_set t = by_name members t refl

  series_set : (n : Oid) → series_at after n ≡ option_map set (series_at r n)
  series_set n = find_mapped set (λ t. same t.id n) r.series ∙ ap (option_map set) (find_alike (λ t. same (set t).id n) (λ t. same t.id n) r.series (each r.series))
    where
      each : (ts : List Series) → All (λ t. same (set t).id n ≡ same t.id n) ts
      each [] = All-nil (λ t. same (set t).id n ≡ same t.id n)
      each (t ∷ ts) = All-cons (λ t. same (set t).id n ≡ same t.id n) t ts (ap (λ m. same m n) (set_id t)) (each ts)

  set_found : (n : Oid) (t : Series) → series_at r n ≡ Some t → series_at after n ≡ Some (set t)
  set_found n t h = series_set n ∙ ap (option_map set) h

  entry_stays : (n : Oid) → IsEntryAt r n → IsEntryAt after n
  entry_stays n (inl h) = inl h
  entry_stays n (inr (inl h)) = inr (inl h)
  entry_stays n (inr (inr h)) = inr (inr (set h.0, set_found n h.0 h.1))

  -- ---- names

  abbrev named_by : Oid → Option Series → List ℕ
  named_by n t = unwrap_or (option_map (λ t. t.name) t) (unwrap_or (option_and_then (λ (z : Object). z.name) (object_at r n)) [])

  name_new : (n : Oid) → same n s.id ≡ true → entry_name after n ≡ name
  name_new n e = ap (entry_name after) (same_eq n s.id e) ∙ ap (named_by s.id) (set_found s.id s there ∙ ap Some (set_yes s (same_refl s.id)))

  name_other : (n : Oid) → same n s.id ≡ false → entry_name after n ≡ entry_name r n
  name_other n e = by (series_at r n) refl
    where
      by : (o : Option Series) → series_at r n ≡ o → entry_name after n ≡ entry_name r n
      by None h = ap (named_by n) (series_set n ∙ (ap (option_map set) h ∙ sym h))
      by (Some t) h = ap (named_by n) (set_found n t h ∙ (ap Some (set_no t (subst (λ m. same m s.id ≡ false) (sym (series_found r n t h)) e)) ∙ sym h))

  third : (a b c : Bool) → a ≡ true → b ≡ true → a && b && c ≡ false → c ≡ false
  third true true c d e h = h
  third true false c d e h = absurd (both_ways false refl e)
  third false b c d e h = absurd (both_ways false refl d)

  -- no other child of a folder of the series has the new name
  unlike : (p q : Filed) → is_taken r p.folder s.id name ≡ false → Contains r.filed q → same q.child s.id ≡ false → p.folder ≡ q.folder → bytes_eq (entry_name r q.child) name ≡ false
  unlike p q is_free inside e same_folder =
      third (same q.folder p.folder) (not (same q.child s.id)) (bytes_eq (entry_name r q.child) name) (subst (λ g. same g p.folder ≡ true) same_folder (same_refl p.folder)) (ap not e)
      (All-contains (λ q. same q.folder p.folder && not (same q.child s.id) && bytes_eq (entry_name r q.child) name ≡ false) r.filed q
      (all_from_any (λ q. same q.folder p.folder && not (same q.child s.id) && bytes_eq (entry_name r q.child) name) r.filed is_free) inside)

  abbrev IsFree : Filed → Type 0
  IsFree p = same p.child s.id ≡ true → is_taken r p.folder s.id name ≡ false

  abbrev IsOfPair : Filed → Type 0
  IsOfPair p = Contains r.filed p × IsFree p

  of_pairs : All IsOfPair r.filed
  of_pairs = all_zip (Contains r.filed) IsFree IsOfPair r.filed (λ p a b. (a, b)) (All-contains_itself r.filed) free

  names_differ : (p q : Filed) → IsOfPair p → IsOfPair q → Differ r p q → Differ after p q
  names_differ p q a b d e = by_test (same p.child s.id)
      (λ i. by_test (same q.child s.id)
      (λ j. absurd (both_ways (bytes_eq (entry_name r p.child) (entry_name r q.child)) (d e) (bytes_same (entry_name r p.child) (entry_name r q.child) (ap (entry_name r) (same_eq p.child s.id i ∙ sym (same_eq q.child s.id j))))))
      (λ j. ap (λ n. bytes_eq n (entry_name after q.child)) (name_new p.child i) ∙ (ap (bytes_eq name) (name_other q.child j)
      ∙ bytes_turned (entry_name r q.child) name (unlike p q (a.1 i) b.0 j e))))
      (λ i. by_test (same q.child s.id)
      (λ j. ap (λ n. bytes_eq n (entry_name after q.child)) (name_other p.child i) ∙ (ap (bytes_eq (entry_name r p.child)) (name_new q.child j)
      ∙ unlike q p (b.1 j) a.0 i (sym e)))
      (λ j. ap (λ n. bytes_eq n (entry_name after q.child)) (name_other p.child i) ∙ (ap (bytes_eq (entry_name r p.child)) (name_other q.child j) ∙ d e)))

  -- ---- documents

  belongs_stays : (z : Object) (o : Option Oid) → Belongs r z o → Belongs after z o
  belongs_stays z None b = b
  belongs_stays z (Some n) b = (b.0, (set b.1.0, set_found n b.1.0 b.1.1, ap (list_any (same z.id)) (members_set b.1.0) ∙ b.1.2))

  series_stays : (t : Series) → IsSeries r t → IsSeries after (set t)
  series_stays t l = (
    subst (All (IsMember after (set t))) (sym (members_set t)) (All-weaker (IsMember r t) (IsMember after (set t)) (λ n m. (m.0, m.1, m.2 ∙ ap Some (sym (set_id t)))) (members t) l.0),
    subst (Apart (λ m n. same m n ≡ false)) (sym (members_set t)) l.1,
    subst (λ ms. list_any (λ n. true) ms ≡ true) (sym (members_set t)) l.2,
  )

  alone_stays : (i : Oid) (t : Series) → IsAlone t i → IsAlone (set t) i
  alone_stays i t h = (by_name (λ t. length t.versions) t refl ∙ h.0, by_name (λ t. t.working) t refl ∙ h.1)

  plain_stays : (i : Oid) (o : Option Oid) → IfSome o (λ n. IfSome (series_at r n) (λ t. IsAlone t i)) → IfSome o (λ n. IfSome (series_at after n) (λ t. IsAlone t i))
  plain_stays i None h = tt
  plain_stays i (Some n) h = by (series_at r n) refl h
    where
      by : (o : Option Series) → series_at r n ≡ o → IfSome o (λ t. IsAlone t i) → IfSome (series_at after n) (λ t. IsAlone t i)
      by None k h = subst (λ o. IfSome o (λ t. IsAlone t i)) (sym (series_set n ∙ ap (option_map set) k)) tt
      by (Some t) k h = subst (λ o. IfSome o (λ t. IsAlone t i)) (sym (set_found n t k)) (alone_stays i t h)

  abbrev version_by : Oid → Option Series → Bool
  version_by n o = unwrap_or (option_map (λ t. list_any (λ v. same v.object n) t.versions) o) false

  version_in : (z : Object) (o : Option Oid) → unwrap_or (option_map (λ m. version_by z.id (series_at after m)) o) false ≡ unwrap_or (option_map (λ m. version_by z.id (series_at r m)) o) false
  version_in z None = refl
  version_in z (Some m) = by (series_at r m) refl
    where
      by : (o : Option Series) → series_at r m ≡ o → version_by z.id (series_at after m) ≡ version_by z.id (series_at r m)
      by None k = ap (version_by z.id) (series_set m ∙ (ap (option_map set) k ∙ sym k))
      by (Some t) k = ap (version_by z.id) (set_found m t k) ∙ (by_name (λ t. list_any (λ v. same v.object z.id) t.versions) t refl ∙ sym (ap (version_by z.id) k))

  access_stays : (l : AccessList) → IsAccess r l → IsAccess after l
  access_stays l (inl h, a) = (inl h, a)
  access_stays l (inr h, a) = (inr (set h.0, set_found l.at h.0 h.1), a)

  labels_stay : (t : Series) → HasLabelsOf r.step t → HasLabelsOf r.step (set t)
  labels_stay t h = by_test (same t.id s.id) (λ e. subst (HasLabelsOf r.step) (sym (set_yes t e)) h) (λ e. subst (HasLabelsOf r.step) (sym (set_no t e)) h)

  -- ---- all

  pub rename_keeps : IsWellFormed after
  rename_keeps = record {
    numbers = w.numbers;
    series_numbers = (
      apart_map (λ t u. t.id.0 < u.id.0) set r.series (apart_weaker (λ t. t.id.0 < r.next) (λ t u. t.id.0 < u.id.0) (λ t u. (set t).id.0 < (set u).id.0) r.series
          (λ t u a b l. let d : (set t).id.0 ≡ t.id.0 = ap (λ n. n.0) (set_id t) in let e : (set u).id.0 ≡ u.id.0 = ap (λ n. n.0) (set_id u) in omega (arith, d, e, l)) w.series_numbers.1 w.series_numbers.0),
      All-map (λ t. t.id.0 < r.next) set r.series (All-weaker (λ t. t.id.0 < r.next) (λ t. (set t).id.0 < r.next) (λ t l. subst (λ n. n.0 < r.next) (sym (set_id t)) l) r.series w.series_numbers.1),
    );
    firsts = All-map (λ t. IfSome (object_at r t.id) (λ z. z.series ≡ Some t.id)) set r.series
        (All-weaker (λ t. IfSome (object_at r t.id) (λ z. z.series ≡ Some t.id)) (λ t. IfSome (object_at r (set t).id) (λ z. z.series ≡ Some (set t).id))
        (λ t h. subst (λ n. IfSome (object_at r n) (λ z. z.series ≡ Some n)) (sym (set_id t)) h) r.series w.firsts);
    renditions = w.renditions;
    root = w.root;
    ways = w.ways;
    one_parent = w.one_parent;
    pairs = All-weaker (IsPair r) (IsPair after) (λ p l. (l.0, entry_stays p.child l.1)) r.filed w.pairs;
    names = apart_weaker IsOfPair (Differ r) (Differ after) r.filed names_differ of_pairs w.names;
    documents = All-weaker (λ z. Belongs r z z.series) (λ z. Belongs after z z.series) (λ z b. belongs_stays z z.series b) r.objects w.documents;
    series = All-map (IsSeries after) set r.series (All-weaker (IsSeries r) (λ t. IsSeries after (set t)) series_stays r.series w.series);
    plain = All-weaker (IsPlainIn r) (IsPlainIn after) (λ z h e. plain_stays z.id z.series (h e)) r.objects w.plain;
    own_names = All-weaker (λ z. is_some z.name ≡ not (is_version r z)) (λ z. is_some z.name ≡ not (is_version after z)) (λ z h. h ∙ ap not (sym (version_in z z.series))) r.objects w.own_names;
    relationships = w.relationships;
    policies = w.policies;
    access = (w.access.0, All-weaker (IsAccess r) (IsAccess after) access_stays r.access w.access.1);
    listed = w.listed;
    contents = w.contents;
    sizes = w.sizes;
    typed = w.typed;
    types = w.types;
    defs = w.defs;
    kept = All-weaker (λ z. IsKept r (props_of r.types z.kind z.secondary) z) (λ z. IsKept after (props_of r.types z.kind z.secondary) z) (λ z k. kept_anywhere r after z z w.defs refl k) r.objects w.kept;
    own_values = w.own_values;
    groups = w.groups;
    bounds = w.bounds;
    tokens = w.tokens;
    labels = All-map (HasLabelsOf r.step) set r.series (All-weaker (HasLabelsOf r.step) (λ t. HasLabelsOf r.step (set t)) labels_stay r.series w.labels);
  }
