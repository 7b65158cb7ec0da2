use Rattle.std.proofs.Common.{◌≡◌, map, take}
use Rattle.std.specs.List.{filter_map}
use Rattle.cm_map.specs.Parts.{pointee}
use Rattle.cmis_spec.specs.Access.{read_at}
use Rattle.rd_lists.proofs.number.read_among.Given as goal

abbrev pub invariant-loop-n : goal.invariant-loop-n
invariant-loop-n l = map pointee l.all.items ≡ filter_map (read_at l.state l.user) (take l.n-index l.numbers)
