use Rattle.std.proofs.Common.{◌≡◌, ◌++◌, map, take}
use Rattle.json_text.specs.Tokens.{fields_tokens}
use Rattle.show_json.specs.Columns.{full_field}
use Rattle.show_json.proofs.object.write_fulls.Given as goal

abbrev pub invariant-loop-column : goal.invariant-loop-column
invariant-loop-column l = l.out ≡ l.initial.out ++ fields_tokens (map (full_field l.sight) (take l.column-index l.columns))
