use Rattle.std.proofs.Common.{◌≡◌, take}
use Rattle.cm_see.specs.Shown.{last_major}
use Rattle.rd_include.proofs.version.last_major.Given as goal

abbrev pub invariant-loop-version : goal.invariant-loop-version
invariant-loop-version l = l.last ≡ last_major (take l.version-index l.versions)
