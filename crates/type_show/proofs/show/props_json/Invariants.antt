use Rattle.std.proofs.Common.{◌≡◌, map, take}
use Rattle.std.specs.Prelude.{fold}
use Rattle.serde_json.specs.Data.{no_members}
use Rattle.json_text.specs.Build.{with_field}
use Rattle.json_text.specs.Shown.{fields_of}
use Rattle.type_show.specs.Showing.{prop_field}
use Rattle.type_show.proofs.show.props_json.Given as goal

abbrev pub invariant-loop-def : goal.invariant-loop-def
invariant-loop-def l = fields_of l.fields ≡ fold with_field no_members (map prop_field (take l.def-index l.defs))
