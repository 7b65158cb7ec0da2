use Rattle.std.proofs.Common.{◌≡◌, is_some, take}
use Rattle.std.specs.List.{list_any}
use Rattle.core.specs.Ordering.{nat_cmp}
use Rattle.core.specs.FinMap.Entries.{find}
use Rattle.cm_base.specs.declared.number.Oid.{Oid}
use Rattle.cmis_spec.specs.Repository.{same}
use Rattle.rd_lists.proofs.number.set_of.Given as goal

abbrev pub invariant-loop-n : goal.invariant-loop-n
invariant-loop-n l = (m : Oid) → is_some (find nat_cmp m.0 l.all) ≡ list_any (same m) (take l.n-index l.numbers)
