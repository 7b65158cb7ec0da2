-- What the program makes of an object that an update changes.
use Rattle.std.specs.Prelude.{◌≡◌, ℕ, false, if◌then◌else◌, List, Option, Some, None, Ok, option_map}
use Rattle.cm_base.specs.declared.object.Object.{Object}
use Rattle.cm_base.specs.declared.series.Series.{Series}
use Rattle.cm_types.specs.declared.given.PropertyCall.TheVariants as calls
use Rattle.cm_types.specs.Properties.{judge_properties}
use Rattle.call_parts.specs.declared.changes.UpdateProperties.{UpdateProperties}
use Rattle.cmis_spec.specs.Repository.{Repository, object_at, series_of}
use Rattle.cmis_spec.specs.Changes.{edited_series}
use Rattle.cmis_spec.specs.Documents.{is_working_copy}
use Rattle.wr_rules.specs.Rules.{has_other_secondary}
use Rattle.wr_rules.specs.Documents.{form_slots, name_after}
use Rattle.cm_series.specs.Series.{under_name}
use Rattle.wr_change.specs.Update.{secondary_named, props_updated, takes_name}

-- the object is there, and what the call asks of it is right, whoever calls and whatever the step
pub record MayChange (r : Repository) (call : UpdateProperties) (x : Object) : Type 0 where
  pub there : object_at r x.id ≡ Some x
  pub secondary : has_other_secondary r.types (secondary_named call) ≡ false
  pub properties : judge_properties (calls.Update (is_working_copy r x)) (props_updated r call x) (form_slots r x) call.properties ≡ Ok tt
  pub free : takes_name r x (name_after r x call.properties) ≡ false

-- a working copy keeps its name for itself
abbrev pub series_renamed : Repository → Object → List ℕ → Option Series
series_renamed r x name = if is_working_copy r x then None else option_map (under_name name) (series_of r x)

-- a series in place of the one that has its number, if there is one
abbrev pub with_maybe : Repository → Option Series → Repository
with_maybe r None = r
with_maybe r (Some s) = edited_series r s
