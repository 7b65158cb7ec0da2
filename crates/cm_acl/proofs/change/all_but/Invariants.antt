use Rattle.std.proofs.Common.{◌≡◌, [], take, fold}
use Rattle.cm_acl.specs.Keys.{kept_with}
use Rattle.cm_acl.proofs.change.all_but.Given as goal

abbrev pub invariant-loop-ace : goal.invariant-loop-ace
invariant-loop-ace l = l.set ≡ fold (kept_with l.removed) [] (take l.ace-index l.aces)
