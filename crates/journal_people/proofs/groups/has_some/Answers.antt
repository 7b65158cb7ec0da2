use Rattle.std.proofs.Common.{sym, arith}
use Rattle.journal_people.proofs.Tested.{some_member}
use Rattle.journal_people.proofs.groups.has_some.Goals as goal

pub returns-in-len1-up : goal.returns-in-len1-up
returns-in-len1-up c = sym (some_member c.args.members.now (omega arith))
