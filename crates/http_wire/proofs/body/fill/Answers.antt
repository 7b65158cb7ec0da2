use Rattle.http_wire.proofs.BodyReading.{filled_by}
use Rattle.http_wire.proofs.body.fill.Goals as goal

pub returns-clause-fills : goal.returns-clause-fills
returns-clause-fills g c =
    filled_by _ _ _ _ _ c.args.count _ _ _ c.read_exactly.result c.in-Ok.ensures.count c.in-Ok.ensures.window c.in-Ok.ensures.body c.read_exactly.ensures.reads
