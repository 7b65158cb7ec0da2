use Rattle.std.proofs.Common.{rules, refl}
use mathlib.Core.Option.{none}
use Rattle.atomic_table.specs.Table.{step}
use Rattle.std.specs.Arc.{arc_value}
use Rattle.desk_lock.proofs.Bearing.{few, all_made, born}
use Rattle.desk_lock.proofs.lock.Lock.split.Goals as goal

pub returns-then-pass-clause-split : goal.returns-then-pass-clause-split
returns-then-pass-clause-split g c = (all_made c.args.pass.now.made (search rules), refl)

pub bear-place-requires-clause-first : goal.bear-place-requires-clause-first
bear-place-requires-clause-first g c = (search rules, search rules, few c.pass.inside.place.me.0.made (search rules) (search rules), search rules)

pub returns-clause-split : goal.returns-clause-split
returns-clause-split g c = let p = c.pass.inside in
    let b = born c.args.pass.now p.place.table_id c.bear-place.new.place.table_id c.catch_up.new.place.table_id (arc_value p.began).opening (arc_value c.in-Ok.began).opening p.place.me.0 (step 2 0 0 0 none) c.catch_up.ensures.seen.0 c.bear-place.new.place.me c.bear-place.result.me c.catch_up.new.place.me
    c.pass.view_is (search rules) (search rules) c.catch_up.ensures.seen.1 (search rules) (search rules) (search rules) in
    (few c.args.pass.now.made (search rules) (search rules), b.0, b.1)

pub returns-in_default-clause-split : goal.returns-in_default-clause-split
returns-in_default-clause-split g c = (few c.args.pass.now.made (search rules) (search rules), refl)
