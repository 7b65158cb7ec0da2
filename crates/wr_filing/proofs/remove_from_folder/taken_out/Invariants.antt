use Rattle.std.proofs.Common.{◌≡◌, map}
use Rattle.std.specs.Prelude.{fold}
use Rattle.cm_map.specs.Parts.{pointee}
use Rattle.wr_filing.specs.Filing.{out_of}
use Rattle.wr_filing.proofs.remove_from_folder.taken_out.Given as goal

abbrev pub invariant-loop-entry : goal.invariant-loop-entry
invariant-loop-entry l = l.draft ≡ fold (λ d e. out_of l.n d e.1) l.fn.draft (map pointee l.yielded)
