use Rattle.std.proofs.Common.{◌≡◌, map, take}
use Rattle.rd_lists.proofs.versions.numbers_of.Given as goal

abbrev pub invariant-loop-version : goal.invariant-loop-version
invariant-loop-version l = l.all.items ≡ map (λ v. v.object) (take l.version-index l.versions)
