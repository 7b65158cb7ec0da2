use Rattle.std.proofs.Common.{arith}
use Rattle.cmis_words.proofs.Four.{few_kept}
use Rattle.cmis_words.proofs.kept.read_kept.Goals as goal

pub returns-in_default-clause-asked : goal.returns-in_default-clause-asked
returns-in_default-clause-asked c = few_kept c.args.words.now (omega (arith, c.in_default.len_below))
