use Rattle.json_text.specs.Shown.{data_of}
use Rattle.type_show.proofs.TextAgain.{text_again, definition_again}
use Rattle.type_show.proofs.read_back.type_text.Goals as goal

pub returns-clause-asked : goal.returns-clause-asked
returns-clause-asked c = text_again c.args.def.now (data_of c.in_ok-json.json) c.in_ok-text.text.items c.in_ok-json.ensures c.in_ok-text.ensures.reads_back

pub returns-clause-made : goal.returns-clause-made
returns-clause-made c = definition_again c.args.def.now (data_of c.in_ok-json.json) c.in_ok-text.text.items c.in_ok-json.ensures c.in_ok-text.ensures.reads_back
