use Rattle.std.proofs.Common.{◌<◌, length, None}
use Rattle.cm_see.proofs.Lists.{last_more}
use Rattle.cm_see.proofs.version.last_major.Goals as goal

pub loop-version-preserved : goal.loop-version-preserved
loop-version-preserved c =
    let lt : c.loop-version.version-index < length c.args.versions.now = c.loop-version-test.true in
    let e = last_more c.args.versions.now c.loop-version.version-index (record { object = record { 0 = 0 }; label = None }) lt in
    cc (e, c.later_major-last.ensures, c.loop-version.invariant)
