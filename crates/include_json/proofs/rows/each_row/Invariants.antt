use Rattle.std.proofs.Common.{◌≡◌, map, take}
use Rattle.json_text.specs.Shown.{listed}
use Rattle.include_json.specs.Rows.{row_data}
use Rattle.include_json.proofs.rows.each_row.Given as goal

abbrev pub invariant-loop-row : goal.invariant-loop-row
invariant-loop-row l = listed l.elements ≡ map row_data (take l.row-index l.rows)
