use Rattle.std.proofs.Common.{◌≡◌, ◌++◌, map, take}
use Rattle.cm_types.specs.BaseTypes.{prop}
use Rattle.cm_basetypes.proofs.props.add_rows.Given as goal

abbrev pub invariant-loop-id : goal.invariant-loop-id
invariant-loop-id l = l.all ≡ l.initial.all ++ map (λ r. prop r.0.now r.1 r.2 r.3 r.4 r.5) (take l.id-index l.rows)
