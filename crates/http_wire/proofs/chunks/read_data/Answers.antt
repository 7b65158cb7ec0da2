use Rattle.http_wire.proofs.DataReading.{data_done, data_stopped}
use Rattle.http_wire.proofs.chunks.read_data.Goals as goal

pub returns-in-Ok-read_piece-clause-reads : goal.returns-in-Ok-read_piece-clause-reads
returns-in-Ok-read_piece-clause-reads g c =
    data_done _ _ _ _ _ c.args.size _ _ _ c.in-Ok-read_piece.field-0 c.in-Ok.ensures.fills c.in-Ok-read_piece.ensures.reads

pub returns-in-Err-read_piece-clause-reads : goal.returns-in-Err-read_piece-clause-reads
returns-in-Err-read_piece-clause-reads g c =
    data_stopped _ _ _ _ _ c.args.size _ _ _ c.in-Err-read_piece.stop c.in-Ok.ensures.fills c.in-Err-read_piece.ensures.reads
