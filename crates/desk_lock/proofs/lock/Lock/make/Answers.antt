use Rattle.std.proofs.Common.{rules, arith, ◌≡◌, ◌<◌, ◌^◌, ◌+◌, [], ◌∷◌, length, drop, None}
use Rattle.std.specs.Arc.{arc_value}
use Rattle.desk_lock.specs.declared.board.Turn.TheVariants.{HasTurn}
use Rattle.desk_lock.specs.Numbers.{by}
use Rattle.desk_lock.specs.Steps.{settled_of}
use Rattle.desk_lock.proofs.Putting.{longer_home}
use Rattle.desk_lock.proofs.Writing.{writes, fits, left_so}
use Rattle.desk_lock.proofs.lock.Lock.make.Goals as goal

pub commit-version-requires-clause-out : goal.commit-version-requires-clause-out
commit-version-requires-clause-out g c = let p = c.pass.inside in
    ((arc_value c.open-version.result.version).journal, c.open-version.ensures.had.0, record { session = p.number; serial = p.own; user = c.in-Ok.user; moment = c.args.moment; call = c.args.call }, search rules, search rules, search rules, search rules, search rules)

pub leave-requires-clause-out : goal.leave-requires-clause-out
leave-requires-clause-out g c = let h = c.open-version.ensures.had in (h.0, search rules, search rules, search rules, h.1.4, record { first = h.2.first; begun = search rules; keeps = h.2.keeps; settled = h.2.settled; again = h.2.again })

pub leave-requires-in-Err-Memory-clause-out : goal.leave-requires-in-Err-Memory-clause-out
leave-requires-in-Err-Memory-clause-out g c = let h = c.open-version.ensures.had in (h.0, search rules, search rules, search rules, h.1.4, record { first = h.2.first; begun = search rules; keeps = h.2.keeps; settled = h.2.settled; again = h.2.again })

pub leave-requires-in-Err-Refused-clause-out : goal.leave-requires-in-Err-Refused-clause-out
leave-requires-in-Err-Refused-clause-out g c = let h = c.open-version.ensures.had in (h.0, search rules, search rules, search rules, h.1.4, record { first = h.2.first; begun = search rules; keeps = h.2.keeps; settled = h.2.settled; again = h.2.again })

pub leave-requires-in-Ok-next_of-clause-out : goal.leave-requires-in-Ok-next_of-clause-out
leave-requires-in-Ok-next_of-clause-out g c = let h = c.open-version.ensures.had in
    let grown = c.in-Ok-next_of.ensures.grown in
    let l = longer_home g.K.Keeper.stands g.K.Keeper.went g.K.Keeper.faults c.pass.inside.place.me.0.keeper c.commit-version.new.place.me.0.keeper c.open-version.result h.0 c.in-Ok-next_of.next c.commit-version.result c.in-Ok-next_of.again _ h.1.4 h.2 (search rules) c.commit-version.ensures.same grown.0 grown.1 in
    (h.0, search rules, search rules, search rules, l.0, record { first = l.1.first; begun = l.1.begun; keeps = l.1.keeps; settled = l.1.settled; again = l.1.again })

pub invariant_of-pass-in-Ok-next_of : goal.invariant_of-pass-in-Ok-next_of
invariant_of-pass-in-Ok-next_of g c = let p = c.pass.inside in let t = arc_value c.open-version.result.version in let n = arc_value c.in-Ok-next_of.next in let o = c.open-version.new.place.me in
    let own : p.own + 1 ≡ length c.leave-in-Ok-next_of.new.place.me.0.own = (
    let w = writes g.M.Machine.next g.M.Machine.number c.args.self.now c.args.pass.now p.place.table_id c.leave-in-Ok-next_of.new.place.table_id (arc_value p.began).opening p.place.me c.open-version.new.place.me c.leave-in-Ok-next_of.new.place.me t c.open-version.ensures.had.0 n p.number p.own c.in-Ok.user c.args.user.now c.args.moment c.args.call c.args.least c.number-number.result c.in-Ok-next_of.shown
    c.pass.view_is c.requires (search rules) c.open-version.ensures.had.1 c.in-Ok-next_of.ensures.lawful (search rules) (search rules) (search rules) c.in-Ok-next_of.ensures.grown.0 (left_so o c.commit-version.new.place.me c.leave-in-Ok-next_of.new.place.me n.journal (by o.0.number (drop o.0.start n.journal)) (HasTurn n.journal (settled_of o.0.turn)) ((0, None) ∷ []) (search rules) (search rules)) (search rules) (search rules) c.if-number-least.false c.in-Ok-next_of.ensures.told in
    let more : length c.leave-in-Ok-next_of.new.place.me.0.own ≡ length c.args.pass.now.known.own + 1 = w.0.own in
    let was : p.own ≡ length c.args.pass.now.known.own = search rules in
    omega arith) in
    (search rules, search rules, search rules, search rules, search rules, search rules, search rules, search rules, search rules, search rules, search rules)

pub overflow_add-pass : goal.overflow_add-pass
overflow_add-pass g c = let p = c.pass.inside in let t = arc_value c.open-version.result.version in let n = arc_value c.in-Ok-next_of.next in let o = c.open-version.new.place.me in
    let w = writes g.M.Machine.next g.M.Machine.number c.args.self.now c.args.pass.now p.place.table_id c.leave-in-Ok-next_of.new.place.table_id (arc_value p.began).opening p.place.me c.open-version.new.place.me c.leave-in-Ok-next_of.new.place.me t c.open-version.ensures.had.0 n p.number p.own c.in-Ok.user c.args.user.now c.args.moment c.args.call c.args.least c.number-number.result c.in-Ok-next_of.shown
    c.pass.view_is c.requires (search rules) c.open-version.ensures.had.1 c.in-Ok-next_of.ensures.lawful (search rules) (search rules) (search rules) c.in-Ok-next_of.ensures.grown.0 (left_so o c.commit-version.new.place.me c.leave-in-Ok-next_of.new.place.me n.journal (by o.0.number (drop o.0.start n.journal)) (HasTurn n.journal (settled_of o.0.turn)) ((0, None) ∷ []) (search rules) (search rules)) (search rules) (search rules) c.if-number-least.false c.in-Ok-next_of.ensures.told in
    let small : c.len-len.result < 2 ^ 64 = search rules in
    let all : p.own + 1 < 2 ^ 64 = fits g.M.Machine.next c.args.self.now c.args.pass.now t _ _ n p.own c.len-len.result w.0 (search rules) (search rules) (search rules) small in search rules

pub returns-in-Ok-next_of-clause-wrote : goal.returns-in-Ok-next_of-clause-wrote
returns-in-Ok-next_of-clause-wrote g c = let p = c.pass.inside in let t = arc_value c.open-version.result.version in let n = arc_value c.in-Ok-next_of.next in let o = c.open-version.new.place.me in
    (writes g.M.Machine.next g.M.Machine.number c.args.self.now c.args.pass.now p.place.table_id c.leave-in-Ok-next_of.new.place.table_id (arc_value p.began).opening p.place.me c.open-version.new.place.me c.leave-in-Ok-next_of.new.place.me t c.open-version.ensures.had.0 n p.number p.own c.in-Ok.user c.args.user.now c.args.moment c.args.call c.args.least c.number-number.result c.in-Ok-next_of.shown
    c.pass.view_is c.requires (search rules) c.open-version.ensures.had.1 c.in-Ok-next_of.ensures.lawful (search rules) (search rules) (search rules) c.in-Ok-next_of.ensures.grown.0 (left_so o c.commit-version.new.place.me c.leave-in-Ok-next_of.new.place.me n.journal (by o.0.number (drop o.0.start n.journal)) (HasTurn n.journal (settled_of o.0.turn)) ((0, None) ∷ []) (search rules) (search rules)) (search rules) (search rules) c.if-number-least.false c.in-Ok-next_of.ensures.told).1

pub returns-in-Ok-next_of-clause-is_of : goal.returns-in-Ok-next_of-clause-is_of
returns-in-Ok-next_of-clause-is_of g c = let p = c.pass.inside in let t = arc_value c.open-version.result.version in let n = arc_value c.in-Ok-next_of.next in let o = c.open-version.new.place.me in
    (writes g.M.Machine.next g.M.Machine.number c.args.self.now c.args.pass.now p.place.table_id c.leave-in-Ok-next_of.new.place.table_id (arc_value p.began).opening p.place.me c.open-version.new.place.me c.leave-in-Ok-next_of.new.place.me t c.open-version.ensures.had.0 n p.number p.own c.in-Ok.user c.args.user.now c.args.moment c.args.call c.args.least c.number-number.result c.in-Ok-next_of.shown
    c.pass.view_is c.requires (search rules) c.open-version.ensures.had.1 c.in-Ok-next_of.ensures.lawful (search rules) (search rules) (search rules) c.in-Ok-next_of.ensures.grown.0 (left_so o c.commit-version.new.place.me c.leave-in-Ok-next_of.new.place.me n.journal (by o.0.number (drop o.0.start n.journal)) (HasTurn n.journal (settled_of o.0.turn)) ((0, None) ∷ []) (search rules) (search rules)) (search rules) (search rules) c.if-number-least.false c.in-Ok-next_of.ensures.told).0.of
