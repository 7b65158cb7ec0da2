use Rattle.std.proofs.Common.{◌≡◌, take}
use Rattle.cm_types.specs.Changes.{sorted_props}
use Rattle.type_requests.specs.Keys.{IsKeyed, values_of}
use Rattle.type_requests.proofs.placed.sorted_props.Given as goal

abbrev pub invariant-loop-def : goal.invariant-loop-def
invariant-loop-def l = record {
  keyed : IsKeyed (λ d. d.id) l.map;
  values : values_of l.map ≡ sorted_props (take l.def-index l.defs);
}
