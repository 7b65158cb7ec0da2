use Rattle.byte_codec.proofs.PayloadLaws.{is_this, one_value}
use Rattle.byte_codec.proofs.payload.decoding_undoes_encoding.Goals as goal

pub returns-clause-again : goal.returns-clause-again
returns-clause-again g c = λ x bytes r e d. is_this g.T.Coded.codec x r bytes d e

pub returns-clause-one : goal.returns-clause-one
returns-clause-one g c = λ x y bytes d e. one_value g.T.Coded.codec x y bytes d e
