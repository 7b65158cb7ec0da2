use Rattle.http_wire.proofs.RequestReading.{sized_reads}
use Rattle.http_wire.proofs.reader.read_body.Goals as goal

pub returns-in-Sized-clause-reads : goal.returns-in-Sized-clause-reads
returns-in-Sized-clause-reads g c = rw c.in-Sized.is (sized_reads _ _ _ c.in-Sized.count _ _ c.fill.result _ c.requires.empty c.fill.ensures.fills)
