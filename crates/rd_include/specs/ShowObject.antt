-- An object in the version that is asked for, with what is shown beside its properties (CMIS 1.1, sections 2.2.4.8, 2.2.7.4 and 2.2.7.5).
use Rattle.std.specs.Prelude.{ℕ, Bool, false, List, Option, Some, unwrap_or, option_map, option_and_then, Ok}
use Rattle.cm_base.specs.declared.object.Object.{Object}
use Rattle.cm_base.specs.declared.series.DocumentVersion.{DocumentVersion}
use Rattle.cm_base.specs.declared.cause.Cause.TheVariants as causes
use Rattle.cm_base.specs.Judged.{Judged, ◌>>=◌, find_or}
use Rattle.call_parts.specs.declared.place.Place.{Place}
use Rattle.call_parts.specs.declared.readings.PropertyFilter.{PropertyFilter}
use Rattle.call_parts.specs.declared.replies.ObjectReply.{ObjectReply}
use Rattle.include_parts.specs.declared.readings.Includes.{Includes}
use Rattle.include_parts.specs.declared.readings.ReturnVersion.{ReturnVersion}
use Rattle.include_parts.specs.declared.readings.ReturnVersion.TheVariants as asked
use Rattle.include_parts.specs.declared.readings.ShowObject.{ShowObject}
use Rattle.include_parts.specs.declared.readings.ShowProperties.{ShowProperties}
use Rattle.include_parts.specs.declared.replies.IncludedReply.{IncludedReply}
use Rattle.cmis_spec.specs.Repository.{Repository, last_of, series_of}
use Rattle.cmis_spec.specs.Access.{read_at}
use Rattle.cm_see.specs.Addressed.{addressed}
use Rattle.cm_see.specs.Shown.{last_major, shown_object}
use Rattle.cm_include.specs.declared.included.View.{View}
use Rattle.cm_include.specs.Included.{included_object}

-- the version of x's series that is picked, where there is one and the caller reads it; what belongs to no series is its own version
abbrev pub in_series : Repository → List ℕ → (List DocumentVersion → Option DocumentVersion) → Object → Option Object
in_series r u pick x = unwrap_or (option_map (λ s. option_and_then (λ v. read_at r u v.object) (pick s.versions)) (series_of r x)) (Some x)

-- the version that is asked for
abbrev pub version_asked : Repository → List ℕ → ReturnVersion → Object → Option Object
version_asked r u asked.This x = Some x
version_asked r u asked.Latest x = in_series r u last_of x
version_asked r u asked.LatestMajor x = in_series r u last_major x

abbrev pub included_reply : Repository → List ℕ → PropertyFilter → Bool → Includes → Object → IncludedReply
included_reply r u f succinct i x = record { object = included_object r u f succinct i x }

-- the addressed object as the caller sees it
abbrev pub answer_included : Repository → List ℕ → Place → PropertyFilter → Bool → Includes → Judged IncludedReply
answer_included r u place f succinct i = do
  x ← find_or causes.NotFound (addressed r u place)
  Ok (included_reply r u f succinct i x)

-- the same in a view of the repository
abbrev pub reply_in : View → Object → IncludedReply
reply_in v x = included_reply v.state.now v.user.now v.filter.now v.succinct v.includes.now x

abbrev pub answer_included_in : View → Place → Judged IncludedReply
answer_included_in v place = answer_included v.state.now v.user.now place v.filter.now v.succinct v.includes.now

-- the version of x that is asked for
abbrev pub answer_version : Repository → List ℕ → ShowObject → Object → Judged IncludedReply
answer_version r u q x = do
  v ← find_or causes.NotFound (version_asked r u q.version x)
  Ok (included_reply r u q.object.filter q.object.succinct q.includes v)

abbrev pub answer_show_object : Repository → List ℕ → ShowObject → Judged IncludedReply
answer_show_object r u q = do
  x ← find_or causes.NotFound (addressed r u q.object.place)
  answer_version r u q x

abbrev pub properties_reply : Repository → List ℕ → ShowProperties → Object → ObjectReply
properties_reply r u q x = record { object = shown_object r u q.properties.filter q.properties.succinct x; created = false }

-- the properties alone of the version of x that is asked for
abbrev pub answer_version_properties : Repository → List ℕ → ShowProperties → Object → Judged ObjectReply
answer_version_properties r u q x = do
  v ← find_or causes.NotFound (version_asked r u q.version x)
  Ok (properties_reply r u q v)

abbrev pub answer_show_properties : Repository → List ℕ → ShowProperties → Judged ObjectReply
answer_show_properties r u q = do
  x ← find_or causes.NotFound (addressed r u q.properties.place)
  answer_version_properties r u q x
