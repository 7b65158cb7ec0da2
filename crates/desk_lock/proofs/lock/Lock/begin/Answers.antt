use Rattle.std.proofs.Common.{rules, refl, None}
use Rattle.desk_lock.specs.declared.board.Store.TheVariants.{Absent, Whole}
use Rattle.desk_lock.proofs.Beginning.{begins_so}
use Rattle.desk_lock.proofs.Putting.{since_begun}
use Rattle.desk_lock.proofs.lock.Lock.begin.Goals as goal

pub new-requires-2 : goal.new-requires-2
new-requires-2 g c = begins_so _ c.of-about.result (record { version = c.args.version; keeper = c.args.keeper }) (record { version = c.in_ok-try_clone.field-0; again = None; settled = c.len-len.result; store = Whole c.args.keeper }) (record { version = c.in_ok-try_clone-2.field-0; again = None; settled = 0; store = Absent }) c.push-2.new.self.items c.of-about.ensures (search rules) (search rules) (since_begun g.K.Keeper.stands g.K.Keeper.went c.args.keeper c.args.keeper c.args.version.journal refl g.met.K.Keeper.at_once (search rules)) (search rules) (search rules) (search rules)
