use Rattle.std.specs.Arc.{arc_value}
use Rattle.std.proofs.Common.{rules, ◌<◌, ◌≤◌, ◌∙◌, ap, List, Bool, false, get_or, get_or-set_other, arith}
use Rattle.std.specs.Slots.{slots_items, slots_filled, slots_len}
use Rattle.desk_lock.proofs.Closing.{ends, never_none, that_one, both_empty}
use Rattle.desk_lock.specs.Board.{KeepsSince}
use Rattle.desk_lock.specs.Words.{Since}
use Rattle.desk_lock.proofs.Putting.{settled_less, keeps_by, settled_by}
use Rattle.desk_lock.proofs.lock.Lock.close.Goals as goal

pub unreachable-requires : goal.unreachable-requires
unreachable-requires g c = let p = c.pass.inside in let base = c.self.inside.board.shared.key in
    never_none (KeepsSince g.K.Keeper.stands g.K.Keeper.went g.K.Keeper.faults) c.args.self c.args.pass c.take-home.result (ends (KeepsSince g.K.Keeper.stands g.K.Keeper.went g.K.Keeper.faults) base c.args.self c.args.pass c.self.inside.board.shared.table_id p.place.table_id (arc_value p.began).opening p.place.id p.place.me.0 _ (slots_items c.close_with-closed.result.slots) c.take-home.result c.self.view_is c.pass.view_is
    c.close_with-closed.ensures.values.2 (search rules) (search rules) c.requires.all c.take-home.ensures.value) c.in_default.is

pub take-home-requires : goal.take-home-requires
take-home-requires g c = let few : 0 < slots_len c.close_with-closed.result.slots = search rules in (few, c.close_with-closed.ensures.values.1 0 (omega arith) few)

pub take-shelved-requires : goal.take-shelved-requires
take-shelved-requires g c =
    let few : 1 < slots_len c.close_with-closed.result.slots = search rules in
    let old = slots_filled c.close_with-closed.result.slots in (
      search rules,
      ap (λ (z : List Bool). get_or z 1 false) c.take-home.ensures.others.1 ∙ (get_or-set_other old 0 1 false false (λ q. omega arith) ∙ c.close_with-closed.ensures.values.1 1 (omega arith) few),
    )

pub free-requires : goal.free-requires
free-requires g c = both_empty (slots_filled c.close_with-closed.result.slots) (slots_filled c.take-shelved.new.self.slots) (slots_len c.take-shelved.new.self.slots) (search rules) (search rules)

pub returns-clause-closes : goal.returns-clause-closes
returns-clause-closes g c = let p = c.pass.inside in let base = c.self.inside.board.shared.key in
    (that_one (KeepsSince g.K.Keeper.stands g.K.Keeper.went g.K.Keeper.faults) c.args.self c.args.pass c.take-home.result c.in-Some.laid (ends (KeepsSince g.K.Keeper.stands g.K.Keeper.went g.K.Keeper.faults) base c.args.self c.args.pass c.self.inside.board.shared.table_id p.place.table_id (arc_value p.began).opening p.place.id p.place.me.0 _ (slots_items c.close_with-closed.result.slots) c.take-home.result c.self.view_is c.pass.view_is
    c.close_with-closed.ensures.values.2 (search rules) (search rules) c.requires.all c.take-home.ensures.value) c.in-Some.is).0

pub settle_rest-store-requires : goal.settle_rest-store-requires
settle_rest-store-requires g c = let p = c.pass.inside in let base = c.self.inside.board.shared.key in
    let e = (that_one (KeepsSince g.K.Keeper.stands g.K.Keeper.went g.K.Keeper.faults) c.args.self c.args.pass c.take-home.result c.in-Some.laid (ends (KeepsSince g.K.Keeper.stands g.K.Keeper.went g.K.Keeper.faults) base c.args.self c.args.pass c.self.inside.board.shared.table_id p.place.table_id (arc_value p.began).opening p.place.id p.place.me.0 _ (slots_items c.close_with-closed.result.slots) c.take-home.result c.self.view_is c.pass.view_is
    c.close_with-closed.ensures.values.2 (search rules) (search rules) c.requires.all c.take-home.ensures.value) c.in-Some.is).1 in
    record { home = (e.settled, e.begins, e.long, keeps_by g.K.Keeper.stands g.K.Keeper.went g.K.Keeper.faults c.args.self.keeper c.self.inside.first.value c.in-Some.laid.store e.settled (arc_value c.in-Some.laid.version).journal (search rules) e.keeps) }

pub returns-clause-kept : goal.returns-clause-kept
returns-clause-kept g c = let p = c.pass.inside in let base = c.self.inside.board.shared.key in
    let e = (that_one (KeepsSince g.K.Keeper.stands g.K.Keeper.went g.K.Keeper.faults) c.args.self c.args.pass c.take-home.result c.in-Some.laid (ends (KeepsSince g.K.Keeper.stands g.K.Keeper.went g.K.Keeper.faults) base c.args.self c.args.pass c.self.inside.board.shared.table_id p.place.table_id (arc_value p.began).opening p.place.id p.place.me.0 _ (slots_items c.close_with-closed.result.slots) c.take-home.result c.self.view_is c.pass.view_is
    c.close_with-closed.ensures.values.2 (search rules) (search rules) c.requires.all c.take-home.ensures.value) c.in-Some.is).1 in
    let few : c.args.pass.sure ≤ c.in-Some.laid.settled = (let a = e.long in let b = e.enough in omega arith) in
    settled_by g.K.Keeper.stands g.K.Keeper.went c.self.inside.first.value c.args.self.keeper c.settle_rest-store.result (arc_value c.in-Some.laid.version).journal c.args.pass.sure (search rules)
    (settled_less (Since g.K.Keeper.stands g.K.Keeper.went c.self.inside.first.value) c.settle_rest-store.result (arc_value c.in-Some.laid.version).journal c.args.pass.sure c.in-Some.laid.settled few c.settle_rest-store.ensures.settled)
