use Rattle.form_parts.proofs.Ends.{found_line, found_none, found_split}
use Rattle.form_parts.proofs.scan.line_end.Goals as goal

pub returns-clause-split : goal.returns-clause-split
returns-clause-split c = found_split c.args.text.now c.find.result c.find.ensures

pub returns-clause-found : goal.returns-clause-found
returns-clause-found c = found_line c.args.text.now c.find.result c.find.ensures

pub returns-clause-none : goal.returns-clause-none
returns-clause-none c = found_none c.args.text.now c.find.result c.find.ensures
