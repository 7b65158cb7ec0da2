use Rattle.std.proofs.Common.{arith}
use Rattle.journal_file.proofs.Heads.{head_read}
use Rattle.journal_file.proofs.reading.head_at.Goals as goal

pub returns-clause-head : goal.returns-clause-head
returns-clause-head g c t =
    head_read _ (g.K.Disk.told c.args.disk.now).file.seen _ c.args.place c.args.left (c.requires.whole t) (omega (arith, c.if-left-lt10.false)) (c.in_ok-read.ensures.bytes t) c.head_of.ensures.is
