-- What is listed of an object that is seen alike in two repositories is the same.
use Rattle.std.specs.Prelude.{◌≡◌, ℕ, Bool, true, false, if◌then◌else◌, List, [], ◌∷◌, ◌++◌, map, reverse, All, Option, Some, None, is_some, unwrap_or, option_map, option_and_then}
use Rattle.std.specs.List.{filter_map}
use Rattle.std.specs.Option.{option_to_list}
use Rattle.std.proofs.Common.{refl, sym, ap, subst, ◌∙◌}
use Rattle.std.proofs.lemmas.List.{append-nil, reverse-append}
use Rattle.std.proofs.lemmas.List.Elements.{All-nil}
use Rattle.core.specs.List.{cons_option}
use Rattle.cm_base.specs.declared.number.Oid.{Oid}
use Rattle.cm_base.specs.declared.object.Object.{Object}
use Rattle.cm_base.specs.declared.series.Series.{Series}
use Rattle.cm_base.specs.declared.series.WorkingCopy.{WorkingCopy}
use Rattle.cm_types.specs.declared.definition.BaseType.TheVariants as bases
use Rattle.cmis_spec.specs.Repository.{Repository, same, root, is_a, series_of, owner_of, entry_of, is_filed, parent_in}
use Rattle.cmis_spec.specs.Access.{read_at, parents_of}
use Rattle.cmis_spec.specs.Seen.{SeenSeries, seen_series, is_read}
use Rattle.cmis_laws.proofs.Lists.{by_test, none_some, same_eq}
use Rattle.cm_see.proofs.Looks.{first_of, seen_name}
use Rattle.cm_see.proofs.Objects.{IsHere, here_read, sees_name}
use Rattle.cm_see.proofs.SeenPaths.{sees_up}
use Rattle.cm_see.proofs.Worlds.{AreAlike, AreFound, IsAlike, IsFound, read_at_alike}
use Rattle.rd_lists.specs.Folders.{folders_of, segment_of}
use Rattle.rd_lists.specs.ReadParent.{parent_of}
use Rattle.rd_lists.specs.Versions.{latest_first, versions_of}
use Rattle.rd_lists.proofs.Among.{among_alike, numbered_alike, passing_here}

-- ---- versions

-- the same of what is seen of a series
abbrev seen_latest : SeenSeries → List Oid
seen_latest s = reverse (map (λ v. v.object) s.versions ++ option_to_list s.copy)

-- a working copy that is not read may as well be absent
copy_hidden : (r : Repository) (u : List ℕ) (ns : List Oid) (c : Oid)
    → filter_map (read_at r u) (reverse (ns ++ c ∷ [])) ≡ filter_map (read_at r u) (reverse (ns ++ option_to_list (if is_read r u c then Some c else None)))
copy_hidden r u ns c = by (read_at r u c) refl
  where
    by : (o : Option Object) → read_at r u c ≡ o
        → filter_map (read_at r u) (reverse (ns ++ c ∷ [])) ≡ filter_map (read_at r u) (reverse (ns ++ option_to_list (if is_some o then Some c else None)))
    by (Some x) e = refl
    by None e = ap (filter_map (read_at r u)) (reverse-append ns (c ∷ []))
        ∙ (ap (λ p. cons_option p (filter_map (read_at r u) (reverse ns))) e ∙ ap (λ ms. filter_map (read_at r u) (reverse ms)) (sym (append-nil ns)))

sees_latest : (r : Repository) (u : List ℕ) (s : Series) → filter_map (read_at r u) (latest_first s) ≡ filter_map (read_at r u) (seen_latest (seen_series r u s))
sees_latest r u s = by s.working
  where
    by : (o : Option WorkingCopy) → filter_map (read_at r u) (reverse (map (λ v. v.object) s.versions ++ unwrap_or (option_map (λ w. w.copy ∷ []) o) []))
        ≡ filter_map (read_at r u) (reverse (map (λ v. v.object) s.versions ++ option_to_list (option_and_then (λ w. if is_read r u w.copy then Some w.copy else None) o)))
    by None = refl
    by (Some w) = copy_hidden r u (map (λ v. v.object) s.versions) w.copy

sees_versions : (r : Repository) (u : List ℕ) (x : Object) → versions_of r u x ≡ filter_map (read_at r u) (unwrap_or (option_map seen_latest (option_map (seen_series r u) (series_of r x))) [])
sees_versions r u x = by (series_of r x)
  where
    by : (o : Option Series) → filter_map (read_at r u) (unwrap_or (option_map latest_first o) []) ≡ filter_map (read_at r u) (unwrap_or (option_map seen_latest (option_map (seen_series r u) o)) [])
    by None = refl
    by (Some s) = sees_latest r u s

-- ---- working copies

-- x is a working copy exactly where it is the one that is seen of its series
copy_seen : (r : Repository) (u : List ℕ) (x : Object) → IsHere r u x → (s : Series) → is_some (option_and_then (λ w. if same w.copy x.id then Some w.owner else None) s.working)
    ≡ unwrap_or (option_map (λ n. same n x.id) (seen_series r u s).copy) false
copy_seen r u x h s = by s.working
  where
    hidden : (b : Bool) (n : Oid) → same n x.id ≡ false → false ≡ unwrap_or (option_map (λ n. same n x.id) (if b then Some n else None)) false
    hidden true n e = sym e
    hidden false n e = refl

    by : (o : Option WorkingCopy) → is_some (option_and_then (λ w. if same w.copy x.id then Some w.owner else None) o)
        ≡ unwrap_or (option_map (λ n. same n x.id) (option_and_then (λ w. if is_read r u w.copy then Some w.copy else None) o)) false
    by None = refl
    by (Some w) = by_test (same w.copy x.id)
        (λ e.
        let own : read_at r u w.copy ≡ Some x = ap (read_at r u) (same_eq w.copy x.id e) ∙ here_read r u x h in
        rw (own, e) refl)
        (λ e. rw e (hidden (is_read r u w.copy) w.copy e))

sees_copy : (r : Repository) (u : List ℕ) (x : Object) → IsHere r u x
    → is_some (owner_of r x) ≡ unwrap_or (option_map (λ s. unwrap_or (option_map (λ n. same n x.id) s.copy) false) (option_map (seen_series r u) (series_of r x))) false
sees_copy r u x h = by (series_of r x)
  where
    by : (o : Option Series) → is_some (option_and_then (λ s. option_and_then (λ w. if same w.copy x.id then Some w.owner else None) s.working) o)
        ≡ unwrap_or (option_map (λ s. unwrap_or (option_map (λ n. same n x.id) s.copy) false) (option_map (seen_series r u) o)) false
    by None = refl
    by (Some s) = copy_seen r u x h s

-- ---- in two repositories

module _ (r other : Repository) (u : List ℕ) (a : AreAlike r other u) (x : Object) (h : IsAlike r other u x) where
  pub versions_alike : AreFound r other u (versions_of r u x) (versions_of other u x)
  versions_alike =
      let found = among_alike r other u a (unwrap_or (option_map seen_latest (option_map (seen_series r u) (series_of r x))) []) in
      record {
        same = sees_versions r u x ∙ (found.same ∙ (ap (λ o. filter_map (read_at other u) (unwrap_or (option_map seen_latest o.series) [])) h.alike ∙ sym (sees_versions other u x)));
        each = subst (All (IsAlike r other u)) (sym (sees_versions r u x)) found.each;
      }

  pub parent_alike : is_a r bases.Folder x ≡ true → is_a other bases.Folder x ≡ true → IsFound r other u (parent_of r u x) (parent_of other u x)
  parent_alike e d = subst (λ o. IsFound r other u (parent_of r u x) (option_and_then (read_at other u) o)) up (by (parent_in r.filed x.id))
    where
      up : parent_in r.filed x.id ≡ parent_in other.filed x.id
      up = sees_up r u x a.well e h.here ∙ (ap (λ o. if same x.id root then None else first_of o.folders) h.alike ∙ sym (sees_up other u x a.other_well d h.there))

      by : (o : Option Oid) → IsFound r other u (option_and_then (read_at r u) o) (option_and_then (read_at other u) o)
      by None = record { same = refl; each = λ y k. absurd (none_some y k) }
      by (Some n) = read_at_alike r other u n a

  copy_alike : is_some (owner_of r x) ≡ is_some (owner_of other x)
  copy_alike = sees_copy r u x h.here ∙ (ap (λ o. unwrap_or (option_map (λ s. unwrap_or (option_map (λ n. same n x.id) s.copy) false) o.series) false) h.alike ∙ sym (sees_copy other u x h.there))

  pub folders_alike : AreFound r other u (folders_of r u x) (folders_of other u x)
  folders_alike = by_test (is_some (owner_of r x))
      (λ e. rw (e, sym copy_alike ∙ e) (record { same = refl; each = All-nil (IsAlike r other u) }))
      (λ e. rw (e, sym copy_alike ∙ e) (numbered_alike r other u a (parents_of r u (entry_of x)) (parents_of other u (entry_of x))
      (passing_here r u (λ f. is_filed r f.id (entry_of x)) a.well.numbers) (passing_here other u (λ f. is_filed other f.id (entry_of x)) a.other_well.numbers) (ap (λ o. o.folders) h.alike)))

  pub segment_alike : (asked : Bool) → segment_of r asked x ≡ segment_of other asked x
  segment_alike asked = ap (λ name. if asked then Some name else None) (sees_name r u x a.well h.here.0 ∙ (ap seen_name h.alike ∙ sym (sees_name other u x a.other_well h.there.0)))
