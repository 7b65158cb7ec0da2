use Rattle.byte_codec.proofs.PayloadLaws.{whole_value, part_value, none_read}
use Rattle.byte_codec.proofs.payload.decode_all.Goals as goal

pub returns-in-None : goal.returns-in-None
returns-in-None g c = whole_value g.T.Coded.codec c.in-Ok.value c.args.from.now c.read.new.from c.in-Ok.ensures c.in-None.ensures

pub returns-in-Some : goal.returns-in-Some
returns-in-Some g c = part_value g.T.Coded.codec c.in-Ok.value c.args.from.now c.read.new.from c.in-Some.field-0 c.byte.new.self c.in-Ok.ensures c.in-Some.ensures

pub returns-in-Err : goal.returns-in-Err
returns-in-Err g c = none_read g.T.Coded.codec c.in-Err.stop c.args.from.now c.in-Err.ensures
