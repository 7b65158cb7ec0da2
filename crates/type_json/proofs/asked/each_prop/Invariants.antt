use Rattle.std.proofs.Common.{◌≡◌, ◌++◌, map}
use Rattle.serde_json.specs.View.{view}
use Rattle.type_json.specs.Reading.{prop_request}
use Rattle.type_json.proofs.asked.each_prop.Given as goal

abbrev pub invariant-loop-value : goal.invariant-loop-value
invariant-loop-value l = map (λ m. prop_request (view m.1)) l.members.entries ≡ l.all ++ map (λ m. prop_request (view m.1)) l.value-iterator
