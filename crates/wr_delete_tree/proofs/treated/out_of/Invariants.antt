use Rattle.std.proofs.Common.{◌≡◌, take}
use Rattle.std.specs.Prelude.{fold}
use Rattle.wr_filing.specs.Filing.{out_of}
use Rattle.wr_delete_tree.proofs.treated.out_of.Given as goal

abbrev pub invariant-loop-folder : goal.invariant-loop-folder
invariant-loop-folder l = l.left ≡ fold (out_of l.n) l.fn.draft (take l.folder-index l.folders)
