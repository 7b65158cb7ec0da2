use Rattle.http_wire.proofs.PieceSeeing.{looks_piece}
use Rattle.http_wire.proofs.pieces.look.Goals as goal

pub returns : goal.returns
returns c = looks_piece c.args.piece c.args.budget c.args.bytes.now c.examine.result c.examine.ensures
