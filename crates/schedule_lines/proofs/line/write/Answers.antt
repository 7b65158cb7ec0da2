use Rattle.schedule_lines.proofs.Names.{no_text}
use Rattle.schedule_lines.proofs.line.write.Goals as goal

pub returns-in-Err : goal.returns-in-Err
returns-in-Err c = no_text c.args.word.now c.args.name.now c.in-Err.ensures.cases.0
