use Rattle.std.proofs.Common.{◌≡◌, ◌++◌, map, take}
use Rattle.json_text.specs.Tokens.{fields_tokens}
use Rattle.show_json.specs.Columns.{slot_field}
use Rattle.show_json.proofs.object.write_slots.Given as goal

abbrev pub invariant-loop-column : goal.invariant-loop-column
invariant-loop-column l = l.out ≡ l.initial.out ++ fields_tokens (map (slot_field l.sight) (take l.column-index l.columns))
