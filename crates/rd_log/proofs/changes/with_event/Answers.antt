use Rattle.std.proofs.Common.{◌≡◌, ◌<◌, ◌++◌, [], ◌∷◌, length, rules}
use Rattle.rd_nav.specs.ReadChildren.{page_size}
use Rattle.rd_log.specs.EventsIn.{seen_event}
use Rattle.rd_log.proofs.Replies.{with_room}
use Rattle.rd_log.proofs.changes.with_event.Goals as goal

pub returns : goal.returns
returns c es h =
    let reply = c.args.reply in
    let q = c.args.q.now in
    let e = seen_event c.args.number c.args.event.now in
    let room : length reply.events < page_size q.max_items = search rules in
    let pushed : c.push.new.self ≡ reply.events ++ record { object = e.object; kind = e.kind; moment = e.moment } ∷ [] = c.in_ok-push.ensures.ok in
    rw pushed (with_room q es e reply h room)
