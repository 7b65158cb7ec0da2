use Rattle.std.proofs.Common.{◌≡◌, ◌++◌, map, take}
use Rattle.state_rows.proofs.filed.push_versions.Given as goal

abbrev pub invariant-loop-version : goal.invariant-loop-version
invariant-loop-version l = l.all ≡ l.initial.all ++ map (λ v. v.object) (take l.version-index l.versions)
