-- The policies that are applied to an object (CMIS 1.1, section 2.2.9.3).
use Rattle.std.specs.Prelude.{ℕ, List}
use Rattle.cm_base.specs.declared.cause.Cause.TheVariants as causes
use Rattle.cm_base.specs.Judged.{Judged, ◌>>=◌, find_or}
use Rattle.call_parts.specs.declared.readings.PropertyFilter.TheVariants as filters
use Rattle.call_parts.specs.declared.readings.ReadPolicies.{ReadPolicies}
use Rattle.call_parts.specs.declared.replies.ObjectsReply.{ObjectsReply}
use Rattle.cm_see.specs.Addressed.{addressed}
use Rattle.cmis_spec.specs.Repository.{Repository}
use Rattle.cmis_spec.specs.Access.{policies_of}
use Rattle.rd_lists.specs.Listed.{objects_reply}

-- those that the caller reads, in the order of their numbers, each with all its properties and nothing else
abbrev pub answer_policies : Repository → List ℕ → ReadPolicies → Judged ObjectsReply
answer_policies r u q = do
  x ← find_or causes.NotFound (addressed r u q.place)
  objects_reply r u filters.All q.succinct (policies_of r u x.id)
