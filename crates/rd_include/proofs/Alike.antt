-- The version that is asked for of an object that is seen alike in two repositories is the same.
use Rattle.std.specs.Prelude.{◌≡◌, ℕ, List, Option, None, Some, unwrap_or, option_map, option_and_then}
use Rattle.std.proofs.Common.{refl, sym, ap, subst, ◌∙◌}
use Rattle.cm_base.specs.declared.object.Object.{Object}
use Rattle.cm_base.specs.declared.series.Series.{Series}
use Rattle.cm_base.specs.declared.series.DocumentVersion.{DocumentVersion}
use Rattle.include_parts.specs.declared.readings.ReturnVersion.{ReturnVersion}
use Rattle.include_parts.specs.declared.readings.ReturnVersion.TheVariants as asked
use Rattle.cmis_spec.specs.Repository.{Repository, last_of, series_of}
use Rattle.cmis_spec.specs.Access.{read_at}
use Rattle.cmis_spec.specs.Seen.{SeenSeries, seen_series}
use Rattle.cmis_laws.proofs.Lists.{none_some, some_eq}
use Rattle.cm_see.specs.Shown.{last_major}
use Rattle.cm_see.proofs.Worlds.{AreAlike, IsAlike, IsFound, read_at_alike}
use Rattle.rd_include.specs.ShowObject.{in_series, version_asked}

-- the version of what is seen of a series
abbrev picked : Repository → List ℕ → (List DocumentVersion → Option DocumentVersion) → Object → Option SeenSeries → Option Object
picked r u pick x o = unwrap_or (option_map (λ s. option_and_then (λ v. read_at r u v.object) (pick s.versions)) o) (Some x)

sees_picked : (r : Repository) (u : List ℕ) (pick : List DocumentVersion → Option DocumentVersion) (x : Object) → in_series r u pick x ≡ picked r u pick x (option_map (seen_series r u) (series_of r x))
sees_picked r u pick x = by (series_of r x)
  where
    by : (o : Option Series) → unwrap_or (option_map (λ s. option_and_then (λ v. read_at r u v.object) (pick s.versions)) o) (Some x) ≡ picked r u pick x (option_map (seen_series r u) o)
    by None = refl
    by (Some s) = refl

module _ (r other : Repository) (u : List ℕ) (a : AreAlike r other u) (x : Object) (h : IsAlike r other u x) where
  itself : IsFound r other u (Some x) (Some x)
  itself = record { same = refl; each = λ y k. subst (IsAlike r other u) (some_eq x y k) h }

  found_of : (o : Option DocumentVersion) → IsFound r other u (option_and_then (λ v. read_at r u v.object) o) (option_and_then (λ v. read_at other u v.object) o)
  found_of None = record { same = refl; each = λ y k. absurd (none_some y k) }
  found_of (Some v) = read_at_alike r other u v.object a

  picked_alike : (pick : List DocumentVersion → Option DocumentVersion) (o : Option SeenSeries) → IsFound r other u (picked r u pick x o) (picked other u pick x o)
  picked_alike pick None = itself
  picked_alike pick (Some s) = found_of (pick s.versions)

  in_series_alike : (pick : List DocumentVersion → Option DocumentVersion) → IsFound r other u (in_series r u pick x) (in_series other u pick x)
  in_series_alike pick =
      let here : picked r u pick x (option_map (seen_series r u) (series_of r x)) ≡ in_series r u pick x = sym (sees_picked r u pick x) in
      let there : picked other u pick x (option_map (seen_series r u) (series_of r x)) ≡ in_series other u pick x = ap (λ o. picked other u pick x o.series) h.alike ∙ sym (sees_picked other u pick x) in
      subst (λ o. IsFound r other u o (in_series other u pick x)) here
      (subst (λ p. IsFound r other u (picked r u pick x (option_map (seen_series r u) (series_of r x))) p) there
      (picked_alike pick (option_map (seen_series r u) (series_of r x))))

  pub version_alike : (v : ReturnVersion) → IsFound r other u (version_asked r u v x) (version_asked other u v x)
  version_alike asked.This = itself
  version_alike asked.Latest = in_series_alike last_of
  version_alike asked.LatestMajor = in_series_alike last_major
