use Rattle.std.proofs.Common.{◌≡◌, map, take}
use Rattle.std.specs.Prelude.{fold}
use Rattle.serde_json.specs.Data.{no_members}
use Rattle.json_text.specs.Build.{with_field}
use Rattle.json_text.specs.Shown.{fields_of}
use Rattle.include_json.specs.Rows.{cell_field}
use Rattle.include_json.proofs.row.cells_json.Given as goal

abbrev pub invariant-loop-cell : goal.invariant-loop-cell
invariant-loop-cell l = fields_of l.fields ≡ fold with_field no_members (map cell_field (take l.cell-index l.cells))
