-- The folders of an object, with what is shown beside their properties (CMIS 1.1, section 2.2.3.5).
use Rattle.std.specs.Prelude.{ℕ, not, List, length, map, Option, Ok}
use Rattle.cm_base.specs.declared.object.Object.{Object}
use Rattle.cm_base.specs.declared.cause.Cause.TheVariants as causes
use Rattle.cm_base.specs.Judged.{Judged, ◌>>=◌, ◌>>◌, find_or, refuse}
use Rattle.include_parts.specs.declared.readings.ShowParents.{ShowParents}
use Rattle.include_parts.specs.declared.replies.IncludedMember.{IncludedMember}
use Rattle.include_parts.specs.declared.replies.IncludedParentsReply.{IncludedParentsReply}
use Rattle.cmis_spec.specs.Repository.{Repository}
use Rattle.cm_see.specs.Addressed.{addressed}
use Rattle.cm_include.specs.Included.{included_object}
use Rattle.rd_lists.specs.Folders.{folders_of, is_fileable, segment_of}
use Rattle.rd_lists.specs.Listed.{is_too_long}

-- a folder as the caller sees it, with the name that the object has in it
abbrev pub included_parent : Repository → List ℕ → ShowParents → Option (List ℕ) → Object → IncludedMember
included_parent r u q segment f = record {
  object = included_object r u q.parents.filter q.parents.succinct q.includes f;
  segment = segment;
}

abbrev pub included_parents : Repository → List ℕ → ShowParents → Option (List ℕ) → List Object → Judged IncludedParentsReply
included_parents r u q segment fs = do
  refuse (causes.TooMany (length fs)) (is_too_long (length fs))
  Ok (record { parents = map (included_parent r u q segment) fs })

abbrev pub answer_show_parents_of : Repository → List ℕ → ShowParents → Object → Judged IncludedParentsReply
answer_show_parents_of r u q x = do
  refuse causes.NotFileable (not (is_fileable r x))
  included_parents r u q (segment_of r q.parents.segments x) (folders_of r u x)

abbrev pub answer_show_parents : Repository → List ℕ → ShowParents → Judged IncludedParentsReply
answer_show_parents r u q = do
  x ← find_or causes.NotFound (addressed r u q.parents.place)
  answer_show_parents_of r u q x
