use Rattle.http_wire.proofs.HeadReading.{looks_of_ok}
use Rattle.http_wire.proofs.head_reader.look.Goals as goal

pub returns : goal.returns
returns c = looks_of_ok c.args.bytes.now c.examine_head.new.spans.items c.examine_head.result c.examine_head.ensures
