use Rattle.journal_file.proofs.Heads.{last_head_read, first_byte}
use Rattle.journal_file.proofs.reading.last_head_at.Goals as goal

pub returns-clause-head : goal.returns-clause-head
returns-clause-head g c t =
    let file = (g.K.Disk.told c.args.disk.now).file.seen in
    last_head_read _ file c.args.place _ (c.requires.within t) (c.requires.last t) (first_byte file c.read.new.room c.args.place (c.in_ok-read.ensures.bytes t)) c.last_head_of.ensures.is
