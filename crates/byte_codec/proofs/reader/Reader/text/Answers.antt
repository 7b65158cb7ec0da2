use Rattle.byte_codec.proofs.Utf8.{text_read, text_wrong}
use Rattle.byte_codec.proofs.reader.Reader.text.Goals as goal

pub returns-in-Ok : goal.returns-in-Ok
returns-in-Ok c = text_read c.args.self.now c.in-Some.bytes.now c.bytes.new.self c.in-Ok.text.now c.in-Some.ensures c.in-Ok.ensures.cases.1 c.in-Ok.ensures.cases.0

pub returns-in-Err : goal.returns-in-Err
returns-in-Err c = text_wrong c.args.self.now c.in-Some.bytes.now c.bytes.new.self c.in-Some.ensures c.in-Err.ensures.cases.0
