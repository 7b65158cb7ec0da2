use Rattle.std.proofs.Common.{◌≡◌, map}
use Rattle.std.specs.List.{list_any}
use Rattle.cm_map.specs.Parts.{pointee}
use Rattle.cm_base.specs.declared.access.Level.TheVariants as levels
use Rattle.wr_filing.specs.Filing.{lacks_at}
use Rattle.wr_filing.proofs.remove_from_folder.lacks_among.Given as goal

abbrev pub invariant-loop-entry : goal.invariant-loop-entry
invariant-loop-entry l = l.found ≡ list_any (λ e. lacks_at l.state l.user levels.Write e.1) (map pointee l.yielded)
