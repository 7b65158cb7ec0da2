use Rattle.std.proofs.Common.{rules}
use Rattle.desk_lock.proofs.Shelving.{claims_shelf, has_it_from, off_from}
use Rattle.desk_lock.proofs.shelf.claim_shelf.Goals as goal

pub compare_exchange-requires : goal.compare_exchange-requires
compare_exchange-requires g c = let r = off_from _ _ c.loop.invariant.2 c.requires.ready.0 c.requires.ready.1 in
    (search rules, search rules, claims_shelf c.args.top.now.key _ _ 0 1 c.loop.place.me r.0 r.1)

pub returns-then-compare_exchange-eq0-clause-had : goal.returns-then-compare_exchange-eq0-clause-had
returns-then-compare_exchange-eq0-clause-had g c = has_it_from _ c.loop.place.me _ c.compare_exchange.result c.loop.invariant.2 c.compare_exchange.ensures.2.0 (search rules)
