use Rattle.std.proofs.Common.{◌≡◌, ◌++◌, map, take}
use Rattle.json_text.specs.Tokens.{each_tokens}
use Rattle.cm_map.specs.Parts.{pointee}
use Rattle.cm_types.specs.Types.{base_of}
use Rattle.show_json.specs.Columns.{children_in, columns_in}
use Rattle.show_json.proofs.children.write_behind.Given as goal

abbrev pub invariant-loop-x : goal.invariant-loop-x
invariant-loop-x l =
    (l.before.columns.items ≡ columns_in l.ask l.before.of.now)
    × (l.before.base ≡ base_of l.ask.repository.types l.before.of.now.kind)
    × (l.out ≡ l.initial.out ++ each_tokens (children_in l.ask (map pointee (take l.x-index l.objects))))
