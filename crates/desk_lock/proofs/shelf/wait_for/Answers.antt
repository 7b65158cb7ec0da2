use Rattle.desk_lock.proofs.Shelving.{surely_live}
use Rattle.desk_lock.proofs.shelf.wait_for.Goals as goal

pub assure-requires-clause-live : goal.assure-requires-clause-live
assure-requires-clause-live g c = surely_live _ _ c.loop.invariant.2 c.requires.live
