use Rattle.byte_codec.proofs.PayloadLaws.{is_read}
use Rattle.byte_codec.proofs.payload.decode_standing.Goals as goal

pub returns-clause-again : goal.returns-clause-again
returns-clause-again g c = λ x e. is_read g.T.Coded.codec x c.decode_all.result c.standing-from.result c.args.payload.now.value.items c.standing-from.ensures c.decode_all.ensures e
