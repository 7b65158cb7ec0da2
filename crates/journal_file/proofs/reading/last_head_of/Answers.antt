use Rattle.journal_file.proofs.Heads.{last_broken}
use Rattle.journal_file.proofs.reading.last_head_of.Goals as goal

pub returns-clause-is : goal.returns-clause-is
returns-clause-is c behind short = last_broken c.args.gate behind c.if-gate-ne1.false short
