use Rattle.std.proofs.Common.{◌∙◌, arith, refl, ap, length}
use Rattle.outside.proofs.Known.{Gave-none}
use Rattle.http_wire.proofs.ChunkReading.{no_chunks, one_more, longer_form, body_done, body_stop}
use Rattle.http_wire.proofs.chunks.read_chunks.Goals as goal

pub chunks-init : goal.chunks-init
chunks-init g c = (no_chunks _ _ _ c.requires.empty (Gave-none _ _ refl refl (omega arith)), refl, c.requires.room, omega (arith, ap length c.requires.empty), omega arith)

pub chunks-smaller : goal.chunks-smaller
chunks-smaller g c =
    let r = rw c.in-Ok-Some.field-0-is at c.in-Ok-Some.ensures.reads in
    let l = longer_form _ _ _ _ c.chunks.form c.in-Ok-Some.longer _ _ r in
    omega (arith, l.0, l.1)

pub chunks-preserved : goal.chunks-preserved
chunks-preserved g c =
    let r = rw c.in-Ok-Some.field-0-is at c.in-Ok-Some.ensures.reads in
    let l = longer_form _ _ _ _ c.chunks.form c.in-Ok-Some.longer _ _ r in
    (one_more _ _ _ _ _ c.chunks.form c.in-Ok-Some.longer _ _ _ c.chunks.invariant.0 r, c.in-Ok-Some.ensures.aside ∙ c.chunks.invariant.1, c.read_chunk.auto.spans ∙ c.chunks.invariant.2, l.2, l.1)

pub returns-in-Ok-None-clause-reads : goal.returns-in-Ok-None-clause-reads
returns-in-Ok-None-clause-reads g c =
    let r = rw c.in-Ok-None.field-0-is at c.in-Ok-None.ensures.reads in
    body_done _ _ _ _ _ c.chunks.form _ _ _ c.chunks.invariant.0 c.chunks.invariant.3 c.chunks.invariant.4 r

pub returns-in-Err-clause-reads : goal.returns-in-Err-clause-reads
returns-in-Err-clause-reads g c =
    body_stop _ _ _ _ _ c.chunks.form _ _ _ c.in-Err.stop c.chunks.invariant.0 c.chunks.invariant.3 c.chunks.invariant.4 c.in-Err.ensures.reads
