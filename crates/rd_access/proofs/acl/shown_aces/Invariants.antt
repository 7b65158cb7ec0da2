use Rattle.std.proofs.Common.{◌≡◌, take}
use Rattle.std.specs.Prelude.{[], fold}
use Rattle.rd_access.specs.Grouped.{grouped_with}
use Rattle.rd_access.proofs.acl.shown_aces.Given as goal

abbrev pub invariant-loop-ace : goal.invariant-loop-ace
invariant-loop-ace l = l.groups.items ≡ fold grouped_with [] (take l.ace-index l.aces)
