use Rattle.std.proofs.Common.{◌≡◌, map, take}
use Rattle.wr_remove.proofs.members.versions_of.Given as goal

abbrev pub invariant-loop-version : goal.invariant-loop-version
invariant-loop-version l = l.all ≡ map (λ v. v.object) (take l.version-index l.versions)
