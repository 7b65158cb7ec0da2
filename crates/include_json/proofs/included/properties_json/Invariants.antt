use Rattle.std.proofs.Common.{◌≡◌, map, take}
use Rattle.std.specs.Prelude.{fold}
use Rattle.serde_json.specs.Data.{no_members}
use Rattle.json_text.specs.Build.{with_field}
use Rattle.json_text.specs.Shown.{fields_of}
use Rattle.object_json.specs.Objects.{property_field}
use Rattle.include_json.proofs.included.properties_json.Given as goal

abbrev pub invariant-loop-property : goal.invariant-loop-property
invariant-loop-property l = fields_of l.fields ≡ fold with_field no_members (map property_field (take l.property-index l.properties))
