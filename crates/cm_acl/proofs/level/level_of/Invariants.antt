use Rattle.std.proofs.Common.{◌≡◌, take}
use Rattle.cmis_spec.specs.Access.{granted}
use Rattle.cm_acl.proofs.level.level_of.Given as goal

abbrev pub invariant-loop-ace : goal.invariant-loop-ace
invariant-loop-ace l = l.best ≡ granted (take l.ace-index l.ace-items) l.user l.groups
