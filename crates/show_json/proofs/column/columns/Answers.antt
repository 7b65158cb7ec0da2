use Rattle.std.proofs.Common.{map, subst, sym, take}
use Rattle.show_json.specs.Columns.{id_of}
use Rattle.cm_map.specs.Parts.{pointee}
use Rattle.show_json.specs.Ordered.{AreRising}
use Rattle.show_json.proofs.Rising.{order_rises}
use Rattle.show_json.proofs.column.columns.Goals as goal

pub put-requires : goal.put-requires
put-requires c = record { rising = subst (AreRising id_of) (sym c.loop-def.invariant) (order_rises id_of (map pointee (take c.loop-def.def-index c.args.defs.now))) }
