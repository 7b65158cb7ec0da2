use Rattle.std.proofs.Common.{sym, ap}
use Rattle.std.specs.Prelude.{Ok}
use Rattle.rd_log.specs.ReadChanges.{changes_reply, events_from}
use Rattle.rd_log.proofs.law.changes_of_seen.Goals as goal

pub returns : goal.returns
returns c r u q w other v e = sym (ap (λ s. Ok (changes_reply q (events_from q.token s.log))) e)
