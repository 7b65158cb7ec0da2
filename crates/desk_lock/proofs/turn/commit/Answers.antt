use Rattle.std.proofs.Common.{rules, None, Some}
use Rattle.desk_lock.specs.declared.board.Store.TheVariants.{Absent}
use Rattle.desk_lock.proofs.Turning.{commits, in_hand}
use Rattle.desk_lock.proofs.turn.commit.Goals as goal

pub fetch_add-requires : goal.fetch_add-requires
fetch_add-requires g c = let o = c.requires.out in (search rules, search rules, commits c.args.top.now.key _ _ _ o.0 o.1 (record { version = c.args.version; again = None; settled = 0; store = Absent }) o.2 (search rules) (search rules) (search rules) (search rules) (search rules) (search rules))

pub exchange-requires-2 : goal.exchange-requires-2
exchange-requires-2 g c = (search rules, in_hand _ 0 (Some (record { version = c.args.version; again = None; settled = 0; store = Absent })) (search rules))
