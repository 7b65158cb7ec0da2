use Rattle.std.proofs.Common.{arith}
use Rattle.schedule_lines.proofs.Words.{one_word}
use Rattle.schedule_lines.proofs.line.of_words.Goals as goal

pub returns-in-len1 : goal.returns-in-len1
returns-in-len1 c = one_word c.args.words.now (omega (arith, c.in-len1.len_at_least, c.in-len1.len_below))
