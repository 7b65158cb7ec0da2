use Rattle.std.proofs.Common.{◌≡◌, ◌++◌, map, take}
use Rattle.cm_objects.specs.declared.index_key.IndexKey.TheVariants as keys
use Rattle.cm_objects.proofs.keys.push_types.Given as goal

abbrev pub invariant-loop-id : goal.invariant-loop-id
invariant-loop-id l = l.keys ≡ l.initial.keys ++ map keys.Kind (take l.id-index l.ids)
