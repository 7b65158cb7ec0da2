-- The versions of a document, with what is shown beside their properties (CMIS 1.1, section 2.2.7.6).
use Rattle.std.specs.Prelude.{ℕ, not, List}
use Rattle.cm_base.specs.declared.object.Object.{Object}
use Rattle.cm_base.specs.declared.cause.Cause.TheVariants as causes
use Rattle.cm_base.specs.Judged.{Judged, ◌>>=◌, ◌>>◌, find_or, refuse}
use Rattle.cm_types.specs.declared.definition.BaseType.TheVariants as bases
use Rattle.include_parts.specs.declared.readings.ShowVersions.{ShowVersions}
use Rattle.include_parts.specs.declared.replies.IncludedObject.{IncludedObject}
use Rattle.include_parts.specs.declared.replies.IncludedObjectsReply.{IncludedObjectsReply}
use Rattle.cmis_spec.specs.Repository.{Repository, is_a}
use Rattle.cm_see.specs.Addressed.{addressed}
use Rattle.cm_include.specs.Included.{included_object}
use Rattle.rd_lists.specs.Versions.{versions_of}
use Rattle.rd_include.specs.Listed.{list_of}

-- a version as the caller sees it
abbrev pub included_version : Repository → List ℕ → ShowVersions → Object → IncludedObject
included_version r u q x = included_object r u q.versions.filter q.versions.succinct q.includes x

abbrev pub answer_show_versions_of : Repository → List ℕ → ShowVersions → Object → Judged IncludedObjectsReply
answer_show_versions_of r u q x = do
  refuse causes.WrongKind (not (is_a r bases.Document x))
  list_of (included_version r u q) (versions_of r u x)

abbrev pub answer_show_versions : Repository → List ℕ → ShowVersions → Judged IncludedObjectsReply
answer_show_versions r u q = do
  x ← find_or causes.NotFound (addressed r u q.versions.place)
  answer_show_versions_of r u q x
