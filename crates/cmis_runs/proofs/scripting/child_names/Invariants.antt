use Rattle.std.proofs.Common.{◌≡◌, map, take}
use Rattle.cmis_runs.specs.Scripting.{child_name}
use Rattle.cmis_runs.proofs.scripting.child_names.Given as goal

abbrev pub invariant-loop-member : goal.invariant-loop-member
invariant-loop-member l = l.names ≡ map child_name (take l.member-index l.members)
