use Rattle.std.proofs.Common.{◌≡◌, map, take}
use Rattle.std.specs.Prelude.{fold}
use Rattle.serde_json.specs.Data.{no_members}
use Rattle.json_text.specs.Build.{with_field}
use Rattle.json_text.specs.Shown.{fields_of}
use Rattle.object_json.specs.Objects.{value_field}
use Rattle.include_json.proofs.row.values_json.Given as goal

abbrev pub invariant-loop-slot : goal.invariant-loop-slot
invariant-loop-slot l = fields_of l.fields ≡ fold with_field no_members (map value_field (take l.slot-index l.slots))
