-- What is shown of an object that is read in both is the same.
use Rattle.std.specs.Prelude.{◌≡◌, ℕ, Bool, true, false, ◌&&◌, not, if◌then◌else◌, List, [], ◌∷◌, map, filter, find, length, decimal, All, Option, Some, None, is_some, unwrap_or, option_map, option_and_then}
use Rattle.std.proofs.Common.{refl, sym, ap, ◌∙◌}
use Rattle.std.proofs.lemmas.List.Elements.{All-nil, All-cons}
use Rattle.cm_base.specs.declared.number.Oid.{Oid}
use Rattle.cm_base.specs.declared.object.Object.{Object}
use Rattle.cm_base.specs.declared.series.Series.{Series}
use Rattle.cm_base.specs.declared.series.WorkingCopy.{WorkingCopy}
use Rattle.cm_base.specs.declared.value.Value.TheVariants.{Unset}
use Rattle.cm_types.specs.declared.definition.BaseType.TheVariants as bases
use Rattle.cm_types.specs.declared.property.PropDef.{PropDef}
use Rattle.cm_types.specs.Changes.{base_id}
use Rattle.cm_types.specs.Types.{base_of, is_of_base, props_of}
use Rattle.cm_types.specs.Properties.{value_in}
use Rattle.call_parts.specs.declared.readings.PropertyFilter.{PropertyFilter}
use Rattle.call_parts.specs.declared.replies.Properties.TheVariants as forms
use Rattle.cmis_spec.specs.Repository.{Repository, same, root, is_a, parent_in, path_of, name_of, owner_of, series_of, is_latest}
use Rattle.cmis_spec.specs.Access.{read_at}
use Rattle.cmis_spec.specs.Values.{words}
use Rattle.cmis_spec.specs.Seen.{SeenSeries, seen_series, is_read}
use Rattle.cmis_laws.proofs.Lists.{by_test, same_eq}
use Rattle.cm_see.specs.declared.system.SystemProperty.{SystemProperty}
use Rattle.cm_see.specs.declared.system.SystemProperty.TheVariants as properties
use Rattle.cm_see.specs.System.{system_named}
use Rattle.cm_see.specs.Shown.{checked_out_by, checked_out_id, content_of, flag, is_immutable, is_latest_major, is_latest_version, is_major, label_text, last_major, number, parent_value, passes, path_value, property_value, shown_defs, shown_object, shown_properties, shown_property, shown_slot, system_value, version_of, words_or_unset}
use Rattle.cm_see.proofs.SeenLists.{map_same}
use Rattle.cm_see.proofs.Looks.{seen_name, first_of}
use Rattle.cm_see.proofs.Objects.{IsHere, here_read, read_here, sees_name}
use Rattle.cm_see.proofs.SeenPaths.{sees_path, sees_up, seen_path}
use Rattle.cm_see.proofs.Worlds.{AreAlike, IsAlike}

-- ---- by the series

first_passing : {A : Type 0} (p : A → Bool) (cs : List A) → find p cs ≡ first_of (filter p cs)
first_passing p [] = refl
first_passing p (c ∷ cs) = by_test (p c) (λ e. rw e refl) (λ e. rw e (first_passing p cs))

module _ (r other : Repository) (u : List ℕ) (x : Object) (h : IsAlike r other u x) where
  series_alike : option_map (seen_series r u) (series_of r x) ≡ option_map (seen_series other u) (series_of other x)
  series_alike = ap (λ o. o.series) h.alike

  and_then_alike : {A : Type 0} (f g : Series → Option A) (s : SeenSeries → Option A) → ((t : Series) → f t ≡ s (seen_series r u t)) → ((t : Series) → g t ≡ s (seen_series other u t))
      → option_and_then f (series_of r x) ≡ option_and_then g (series_of other x)
  and_then_alike {A} f g s e d = by r f e (series_of r x) ∙ (ap (option_and_then s) series_alike ∙ sym (by other g d (series_of other x)))
    where
      by : (q : Repository) (k : Series → Option A) → ((t : Series) → k t ≡ s (seen_series q u t)) → (o : Option Series) → option_and_then k o ≡ option_and_then s (option_map (seen_series q u) o)
      by q k c None = refl
      by q k c (Some t) = c t

  map_alike : {A : Type 0} (f : Series → A) (s : SeenSeries → A) → ((q : Repository) (t : Series) → f t ≡ s (seen_series q u t)) → option_map f (series_of r x) ≡ option_map f (series_of other x)
  map_alike {A} f s e = by r (series_of r x) ∙ (ap (option_map s) series_alike ∙ sym (by other (series_of other x)))
    where
      by : (q : Repository) (o : Option Series) → option_map f o ≡ option_map s (option_map (seen_series q u) o)
      by q None = refl
      by q (Some t) = ap Some (e q t)

  version_alike : version_of r x ≡ version_of other x
  version_alike = and_then_alike (λ s. find (λ v. same v.object x.id) s.versions) (λ s. find (λ v. same v.object x.id) s.versions) (λ s. find (λ v. same v.object x.id) s.versions) (λ t. refl) (λ t. refl)

  latest_alike : is_latest_version r x ≡ is_latest_version other x
  latest_alike = ap (λ o. unwrap_or o false) (map_alike (λ s. is_latest s x.id) (λ s. is_latest (record { id = s.id; name = s.name; versions = s.versions; working = None }) x.id) (λ q t. refl))

  latest_major_alike : is_latest_major r x ≡ is_latest_major other x
  latest_major_alike = ap (λ o. unwrap_or o false) (map_alike (λ s. unwrap_or (option_map (λ v. same v.object x.id) (last_major s.versions)) false) (λ s. unwrap_or (option_map (λ v. same v.object x.id) (last_major s.versions)) false) (λ q t. refl))

  series_id_alike : option_map (λ s. decimal s.id.0) (series_of r x) ≡ option_map (λ s. decimal s.id.0) (series_of other x)
  series_id_alike = map_alike (λ s. decimal s.id.0) (λ s. decimal s.id.0) (λ q t. refl)

  immutable_alike : is_immutable r x ≡ is_immutable other x
  immutable_alike = ap (λ v. is_some v && not (is_latest_version r x)) version_alike ∙ ap (λ b. is_some (version_of other x) && not b) latest_alike

  checked_out_by_alike : checked_out_by r x ≡ checked_out_by other x
  checked_out_by_alike = and_then_alike (λ s. option_map (λ w. w.owner) s.working) (λ s. option_map (λ w. w.owner) s.working) (λ s. s.owner) (λ t. refl) (λ t. refl)

  -- ---- the working copy

  copy_seen : (q : Repository) (t : Series) → option_and_then (λ w. option_map (λ c. decimal c.id.0) (read_at q u w.copy)) t.working ≡ option_map (λ n. decimal n.0) (option_and_then (λ w. if is_read q u w.copy then Some w.copy else None) t.working)
  copy_seen q t = by t.working
    where
      read : (n : Oid) (o : Option Object) → read_at q u n ≡ o → option_map (λ c. decimal c.id.0) o ≡ option_map (λ m. decimal m.0) (if is_some o then Some n else None)
      read n None e = refl
      read n (Some c) e = ap (λ m. Some (decimal m.0)) (read_here q u n c e).0

      by : (o : Option WorkingCopy) → option_and_then (λ w. option_map (λ c. decimal c.id.0) (read_at q u w.copy)) o ≡ option_map (λ n. decimal n.0) (option_and_then (λ w. if is_read q u w.copy then Some w.copy else None) o)
      by None = refl
      by (Some w) = read w.copy (read_at q u w.copy) refl

  checked_out_id_alike : checked_out_id r u x ≡ checked_out_id other u x
  checked_out_id_alike = and_then_alike (λ s. option_and_then (λ w. option_map (λ c. decimal c.id.0) (read_at r u w.copy)) s.working) (λ s. option_and_then (λ w. option_map (λ c. decimal c.id.0) (read_at other u w.copy)) s.working)
      (λ s. option_map (λ n. decimal n.0) s.copy) (copy_seen r) (copy_seen other)

  owner_seen : (q : Repository) → IsHere q u x → (t : Series) → option_and_then (λ w. if same w.copy x.id then Some w.owner else None) t.working
      ≡ option_and_then (λ n. if same n x.id then option_map (λ w. w.owner) t.working else None) (option_and_then (λ w. if is_read q u w.copy then Some w.copy else None) t.working)
  owner_seen q here t = by t.working
    where
      hidden : (n : Oid) (p : Option (List ℕ)) (b : Bool) → same n x.id ≡ false → None ≡ option_and_then (λ m. if same m x.id then p else None) (if b then Some n else None)
      hidden n p true e = rw e refl
      hidden n p false e = refl

      by : (o : Option WorkingCopy) → option_and_then (λ w. if same w.copy x.id then Some w.owner else None) o
          ≡ option_and_then (λ n. if same n x.id then option_map (λ w. w.owner) o else None) (option_and_then (λ w. if is_read q u w.copy then Some w.copy else None) o)
      by None = refl
      by (Some w) = by_test (same w.copy x.id)
          (λ e.
          let own : read_at q u w.copy ≡ Some x = ap (read_at q u) (same_eq w.copy x.id e) ∙ here_read q u x here in
          rw (own, e) refl)
          (λ e. rw e (hidden w.copy (Some w.owner) (is_read q u w.copy) e))

  owner_alike : owner_of r x ≡ owner_of other x
  owner_alike = and_then_alike (λ s. option_and_then (λ w. if same w.copy x.id then Some w.owner else None) s.working) (λ s. option_and_then (λ w. if same w.copy x.id then Some w.owner else None) s.working)
      (λ s. option_and_then (λ n. if same n x.id then s.owner else None) s.copy) (owner_seen r h.here) (owner_seen other h.there)

  -- ---- content

  pub content_alike : content_of r x ≡ content_of other x
  content_alike = first_passing (λ c. same c.of x.id) r.contents ∙ (ap (λ o. first_of o.contents) h.alike ∙ sym (first_passing (λ c. same c.of x.id) other.contents))

-- ---- all that is shown

module _ (r other : Repository) (u : List ℕ) (a : AreAlike r other u) (x : Object) (h : IsAlike r other u x) where
  types_alike : r.types ≡ other.types
  types_alike = ap (λ s. s.types) (sym a.alike)

  name_alike : name_of r x ≡ name_of other x
  name_alike = ap (unwrap_or x.name) (sees_name r u x a.well h.here.0 ∙ (ap seen_name h.alike ∙ sym (sees_name other u x a.other_well h.there.0)))

  folder_alike : (b : Bool) → is_a r bases.Folder x ≡ b → is_a other bases.Folder x ≡ b
  folder_alike b e = ap (λ ts. is_of_base ts bases.Folder x.kind) (sym types_alike) ∙ e

  parent_alike : parent_value r x ≡ parent_value other x
  parent_alike = by_test (is_a r bases.Folder x)
      (λ e.
      let k = folder_alike true e in
      let up : parent_in r.filed x.id ≡ parent_in other.filed x.id = sees_up r u x a.well e h.here ∙ (ap (λ o. if same x.id root then None else first_of o.folders) h.alike ∙ sym (sees_up other u x a.other_well k h.there)) in
      rw (e, k, up) refl)
      (λ e. rw (e, folder_alike false e) refl)

  path_alike : path_value r x ≡ path_value other x
  path_alike = by_test (is_a r bases.Folder x)
      (λ e.
      let k = folder_alike true e in
      let at : path_of r x.id ≡ path_of other x.id = sees_path r u x a.well e h.here ∙ (ap (λ s. seen_path s x.id) (sym a.alike) ∙ sym (sees_path other u x a.other_well k h.there)) in
      rw (e, k) (ap words at))
      (λ e. rw (e, folder_alike false e) refl)

  system_alike : (p : SystemProperty) → system_value r u x p ≡ system_value other u x p
  system_alike properties.Name = ap words name_alike
  system_alike properties.ObjectId = refl
  system_alike properties.BaseTypeId = ap (λ ts. words_or_unset (option_map base_id (base_of ts x.kind))) types_alike
  system_alike properties.ObjectTypeId = refl
  system_alike properties.SecondaryObjectTypeIds = refl
  system_alike properties.CreatedBy = refl
  system_alike properties.CreationDate = refl
  system_alike properties.LastModifiedBy = refl
  system_alike properties.LastModificationDate = refl
  system_alike properties.ChangeToken = refl
  system_alike properties.ParentId = parent_alike
  system_alike properties.Path = path_alike
  system_alike properties.IsImmutable = ap flag (immutable_alike r other u x h)
  system_alike properties.IsLatestVersion = ap flag (latest_alike r other u x h)
  system_alike properties.IsMajorVersion = ap (λ v. flag (unwrap_or (option_map is_major v) false)) (version_alike r other u x h)
  system_alike properties.IsLatestMajorVersion = ap flag (latest_major_alike r other u x h)
  system_alike properties.IsPrivateWorkingCopy = ap (λ o. flag (is_some o)) (owner_alike r other u x h)
  system_alike properties.VersionLabel = ap (λ v. words_or_unset (option_and_then (λ w. option_map label_text w.label) v)) (version_alike r other u x h)
  system_alike properties.VersionSeriesId = ap words_or_unset (series_id_alike r other u x h)
  system_alike properties.IsVersionSeriesCheckedOut = ap (λ o. flag (is_some o)) (checked_out_by_alike r other u x h)
  system_alike properties.VersionSeriesCheckedOutBy = ap words_or_unset (checked_out_by_alike r other u x h)
  system_alike properties.VersionSeriesCheckedOutId = ap words_or_unset (checked_out_id_alike r other u x h)
  system_alike properties.ContentStreamLength = ap (λ o. unwrap_or (option_map (λ c. number (length c.stream.pieces)) o) Unset) (content_alike r other u x h)
  system_alike properties.ContentStreamMimeType = ap (λ o. words_or_unset (option_map (λ c. c.stream.kind) o)) (content_alike r other u x h)
  system_alike properties.ContentStreamFileName = ap (λ o. words_or_unset (option_map (λ c. c.stream.file) o)) (content_alike r other u x h)
  system_alike properties.ContentStreamId = ap (λ o. words_or_unset (option_map (λ c. decimal c.step) o)) (content_alike r other u x h)

  property_alike : (id : List ℕ) → property_value r u x id ≡ property_value other u x id
  property_alike id = by (system_named id)
    where
      by : (o : Option SystemProperty) → unwrap_or (option_map (system_value r u x) o) (value_in x.values id) ≡ unwrap_or (option_map (system_value other u x) o) (value_in x.values id)
      by None = refl
      by (Some p) = system_alike p

  defs_alike : (f : PropertyFilter) → shown_defs r f x ≡ shown_defs other f x
  defs_alike f = ap (λ ts. filter (passes f) (props_of ts x.kind x.secondary)) types_alike

  all_defs : {P : PropDef → Type 0} → ((d : PropDef) → P d) → (ds : List PropDef) → All P ds
  all_defs {P} g [] = All-nil P
  all_defs {P} g (d ∷ ds) = All-cons P d ds (g d) (all_defs g ds)

  properties_alike : (f : PropertyFilter) (succinct : Bool) → shown_properties r u f succinct x ≡ shown_properties other u f succinct x
  properties_alike f true = ap forms.Succinct (ap (map (shown_slot r u x)) (defs_alike f)
      ∙ map_same (shown_slot r u x) (shown_slot other u x) (shown_defs other f x) (all_defs {P = λ d. shown_slot r u x d ≡ shown_slot other u x d} (λ d. ap (λ v. record { id = d.id; value = v }) (property_alike d.id)) (shown_defs other f x)))
  properties_alike f false = ap forms.Full (ap (map (shown_property r u x)) (defs_alike f)
      ∙ map_same (shown_property r u x) (shown_property other u x) (shown_defs other f x) (all_defs {P = λ d. shown_property r u x d ≡ shown_property other u x d}
      (λ d. ap (λ v. record { id = d.id; local_name = d.local_name; display_name = d.display_name; query_name = d.query_name; kind = d.kind; cardinality = d.cardinality; value = v }) (property_alike d.id)) (shown_defs other f x)))

  pub shown_alike : (f : PropertyFilter) (succinct : Bool) → shown_object r u f succinct x ≡ shown_object other u f succinct x
  shown_alike f succinct = ap (λ p. record { properties = p }) (properties_alike f succinct)
