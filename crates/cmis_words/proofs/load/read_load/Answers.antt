use Rattle.std.proofs.Common.{arith}
use Rattle.cmis_words.proofs.Two.{many}
use Rattle.cmis_words.proofs.load.read_load.Goals as goal

pub returns-in_default : goal.returns-in_default
returns-in_default c = many c.args.words.now (omega arith)
