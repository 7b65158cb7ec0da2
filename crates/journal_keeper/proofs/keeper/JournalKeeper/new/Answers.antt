use Rattle.std.proofs.Common.{◌∙◌, [], subst, sym}
use Rattle.journal_keeper.specs.Standing.{Stand}
use Rattle.journal_keeper.proofs.StandLaws.{stand_first}
use Rattle.journal_keeper.proofs.keeper.JournalKeeper.new.Goals as goal

pub returns-clause-stands : goal.returns-clause-stands
returns-clause-stands g c = record {
  stand = λ t.
      let told = g.K.Disk.told in
      let codec = g.F.EntryCode.codec in
      let s = c.lawful.ensures.stands t in
      subst (λ (b : g.row.K.Denot). Stand codec c.args.offset (told b) (told c.args.journal.disk) 0 []) (sym (c.of-begun.ensures ∙ c.disk.ensures))
      (stand_first codec c.args.offset (told c.args.journal.disk) s.0 c.args.journal.end s.1 (c.lawful.ensures.synced t));
}
