use Rattle.std.proofs.Common.{◌≡◌, map, take}
use Rattle.std.specs.Prelude.{fold}
use Rattle.serde_json.specs.Data.{no_members}
use Rattle.json_text.specs.Build.{with_field}
use Rattle.json_text.specs.Shown.{fields_of}
use Rattle.call_json.specs.Actions.{flag_field}
use Rattle.call_json.proofs.actions.flags_json.Given as goal

abbrev pub invariant-loop-flag : goal.invariant-loop-flag
invariant-loop-flag l = fields_of l.fields ≡ fold with_field no_members (map flag_field (take l.flag-index l.flags))
