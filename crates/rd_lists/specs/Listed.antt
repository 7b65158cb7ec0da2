-- A list of objects that is not cut into pages (CMIS 1.1, section 2.2).
use Rattle.std.specs.Prelude.{ℕ, nat_lt, Bool, List, length, map, Ok}
use Rattle.cm_base.specs.declared.object.Object.{Object}
use Rattle.cm_base.specs.declared.cause.Cause.TheVariants as causes
use Rattle.cm_base.specs.Judged.{Judged, ◌>>◌, refuse}
use Rattle.call_parts.specs.declared.readings.PropertyFilter.{PropertyFilter}
use Rattle.call_parts.specs.declared.replies.ObjectsReply.{ObjectsReply}
use Rattle.cm_see.specs.Shown.{shown_object}
use Rattle.cmis_spec.specs.Repository.{Repository}

-- the most objects of such a list
unfoldable pub most_listed : ℕ
most_listed = 5000

abbrev pub is_too_long : ℕ → Bool
is_too_long count = nat_lt most_listed count

-- the objects as the caller sees them, in this order
abbrev pub objects_reply : Repository → List ℕ → PropertyFilter → Bool → List Object → Judged ObjectsReply
objects_reply r u f succinct xs = do
  refuse (causes.TooMany (length xs)) (is_too_long (length xs))
  Ok (record { objects = map (shown_object r u f succinct) xs })
