-- checkOut (CMIS 1.1, section 2.2.7.1): when it is refused, what it makes of the repository, and what it answers.
use Rattle.std.specs.Prelude.{ℕ, ◌+◌, true, not, if◌then◌else◌, List, [], Option, Some, unwrap_or, option_map}
use Rattle.cm_base.specs.declared.number.Moment.{Moment}
use Rattle.cm_base.specs.declared.object.Object.{Object}
use Rattle.cm_base.specs.declared.content.Content.{Content}
use Rattle.cm_base.specs.declared.access.Level.TheVariants as levels
use Rattle.cm_base.specs.declared.log.ChangeKind.TheVariants as changes
use Rattle.cm_base.specs.declared.cause.Cause.TheVariants as causes
use Rattle.cm_base.specs.Judged.{Judged, ◌>>=◌, ◌>>◌, refuse, find_or}
use Rattle.cm_types.specs.declared.definition.BaseType.TheVariants as bases
use Rattle.call_parts.specs.declared.readings.PropertyFilter.TheVariants as filters
use Rattle.call_parts.specs.declared.versions.CheckOut.{CheckOut}
use Rattle.call_parts.specs.declared.replies.ObjectReply.{ObjectReply}
use Rattle.call_parts.specs.Weight.{bounded}
use Rattle.call_parts.specs.Versions.{weight_of_check_out}
use Rattle.cm_see.specs.Addressed.{addressed}
use Rattle.cm_see.specs.Shown.{is_latest_version, shown_object}
use Rattle.cmis_spec.specs.Repository.{Repository, root_folder, new_number, is_a, entry_of, name_of}
use Rattle.cmis_spec.specs.Access.{lacks}
use Rattle.cmis_spec.specs.Changes.{stepped, noted}
use Rattle.cmis_spec.specs.Documents.{without_comment, with_copy, with_contents}
use Rattle.wr_rules.specs.Rules.{judge_storage}
use Rattle.wr_rules.specs.Documents.{is_versionable, is_checked_out, copied_cost, content_copied}
use Rattle.cm_state.specs.Looks.{content_at}

-- the weight of the call, and the scalars of a document that is copied
abbrev pub copies_cost : Repository → Object → ℕ
copies_cost r x = if is_a r bases.Document x then copied_cost r x else 0

abbrev pub cost_check_out : Repository → List ℕ → CheckOut → ℕ
cost_check_out r u call = bounded (weight_of_check_out call + unwrap_or (option_map (copies_cost r) (addressed r u call.place)) 0)

-- ---- the refusal

abbrev pub judge_latest : Repository → Object → Judged (Unit {0})
judge_latest r x = do
  refuse causes.WrongKind (not (is_a r bases.Document x))
  refuse causes.NotVersionable (not (is_versionable r x))
  refuse causes.CheckedOut (is_checked_out r x)
  refuse causes.NotLatest (not (is_latest_version r x))

abbrev pub refusal_check_out : Repository → List ℕ → ℕ → CheckOut → Judged (Unit {0})
refusal_check_out r u cost call = do
  judge_storage r cost
  x ← find_or causes.NotFound (addressed r u call.place)
  refuse causes.Denied (lacks r u levels.Write x)
  judge_latest r x

-- ---- the repository after it

-- a copy of x, made by the caller
abbrev pub new_copy : Repository → List ℕ → Moment → Object → Object
new_copy r u m x = record {
  id = new_number r;
  kind = x.kind;
  name = Some (name_of r x);
  secondary = x.secondary;
  values = without_comment x.values;
  created_by = u;
  created_at = m;
  modified_by = u;
  modified_at = m;
  token = r.step + 1;
  series = x.series;
}

-- the content that it copies, as of this step
abbrev pub new_content : Repository → Object → Option Content
new_content r x = option_map (content_copied (new_number r) (r.step + 1)) (content_at r x.id)

abbrev pub after_check_out_of : Repository → List ℕ → Moment → ℕ → Object → Repository
after_check_out_of r u m cost x =
    noted (stepped (with_contents (with_copy r (entry_of x) (new_copy r u m x) u) (new_content r x)) cost) changes.Created (new_number r) m []

abbrev pub after_check_out : Repository → List ℕ → Moment → ℕ → CheckOut → Repository
after_check_out r u m cost call = unwrap_or (option_map (after_check_out_of r u m cost) (addressed r u call.place)) r

-- ---- the reply

-- the working copy that is made; where nothing is addressed the call is refused, and a root stands for it
abbrev pub copy_made : Repository → List ℕ → Moment → CheckOut → Object
copy_made r u m call = new_copy r u m (unwrap_or (addressed r u call.place) (root_folder u m r.step))

-- the working copy as the caller sees it after the step
abbrev pub acknowledgement_check_out : Repository → List ℕ → Moment → ℕ → CheckOut → ObjectReply
acknowledgement_check_out r u m cost call = record {
  object = shown_object (after_check_out r u m cost call) u filters.All call.succinct (copy_made r u m call);
  created = true;
}
