use Rattle.std.proofs.Common.{◌∙◌, refl}
use Rattle.journal_keeper.proofs.StandLaws.{keeps, keeps_front, went_on}
use Rattle.journal_keeper.proofs.Counts.{caused}
use Rattle.journal_keeper.proofs.keeper.JournalKeeperKeeper.keep.Goals as goal

pub returns-in-Ok-clause-kept : goal.returns-in-Ok-clause-kept
returns-in-Ok-clause-kept g c =
    keeps g.K.Disk.tells g.K.Disk.told g.F.EntryCode.codec c.args.self.now c.put_from.new.self c.args.from c.args.version.now.journal c.requires.before
    c.in-Ok.ensures.same.0 c.in-Ok.ensures.same.1 c.in-Ok.ensures.any_moment c.in-Ok.ensures.stands

pub returns-in-Err-clause-front : goal.returns-in-Err-clause-front
returns-in-Err-clause-front g c =
    let p = c.in-Err.ensures.same in
    let r = c.remember.ensures.same in
    keeps_front g.K.Disk.tells g.K.Disk.told g.F.EntryCode.codec c.args.self.now c.remember.new.self c.put_from.new.self.store c.args.from c.args.version.now.journal c.requires.before
    r.0 (r.1 ∙ p.0) (r.2 ∙ p.1) c.in-Err.ensures.any_moment

pub returns-in-Err-clause-cause : goal.returns-in-Err-clause-cause
returns-in-Err-clause-cause g c =
    caused g.K.Disk.told c.args.self.now c.put_from.new.self c.remember.new.self c.in-Err.lost _ c.in-Err.ensures.later c.in-Err.ensures.why c.in-Err.ensures.same.2
    c.remember.ensures.same.0 c.remember.ensures.later c.remember.ensures.counted

pub returns-in-Ok-clause-went : goal.returns-in-Ok-clause-went
returns-in-Ok-clause-went g c =
    went_on g.K.Disk.tells g.K.Disk.told g.F.EntryCode.codec c.args.self.now c.put_from.new.self c.put_from.new.self.store c.args.from c.args.version.now.journal c.requires.before
    refl c.in-Ok.ensures.same.0 c.in-Ok.ensures.same.1 c.in-Ok.ensures.any_moment c.one_reading.ensures

pub returns-in-Err-clause-went : goal.returns-in-Err-clause-went
returns-in-Err-clause-went g c =
    let p = c.in-Err.ensures.same in
    let r = c.remember.ensures.same in
    went_on g.K.Disk.tells g.K.Disk.told g.F.EntryCode.codec c.args.self.now c.remember.new.self c.put_from.new.self.store c.args.from c.args.version.now.journal c.requires.before
    r.0 (r.1 ∙ p.0) (r.2 ∙ p.1) c.in-Err.ensures.any_moment c.one_reading.ensures
