use Rattle.std.proofs.Common.{◌≡◌, filter, take}
use Rattle.cmis_spec.specs.Removal.{among, entry_goes}
use Rattle.cm_removal.proofs.entries.leaving.Given as goal

abbrev pub invariant-loop-n : goal.invariant-loop-n
invariant-loop-n l = l.all ≡ filter (entry_goes l.state (among l.gone)) (take l.n-index l.entries)
