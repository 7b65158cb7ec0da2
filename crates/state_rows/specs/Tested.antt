-- What a query tests of an object.
use Rattle.std.specs.Prelude.{ℕ, ◌&&◌, List, map, filter}
use Rattle.cm_base.specs.declared.object.Object.{Object}
use Rattle.cm_base.specs.declared.value.Slot.{Slot}
use Rattle.cm_types.specs.declared.property.PropDef.{PropDef}
use Rattle.cmis_spec.specs.Repository.{Repository}
use Rattle.cm_see.specs.Shown.{shown_slot}
use Rattle.ql_eval.specs.Conditions.{tests}
use Rattle.row_store.specs.Rows.{Search}

-- of these properties, the queryable ones that the condition names
abbrev pub tested_values : Repository → Search → Object → List PropDef → List Slot
tested_values r s x ds = map (shown_slot r s.user x) (filter (λ d. d.queryable && tests s.bound d.id) ds)
