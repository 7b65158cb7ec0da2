use Rattle.http_grammar.proofs.Heads.{open_partial}
use Rattle.http_wire.proofs.heads.examine_fields.Goals as goal

pub returns-in-Ok-Partial : goal.returns-in-Ok-Partial
returns-in-Ok-Partial c =
    let f = rw c.in-Ok-Partial.field-0-is at c.in-Ok-Partial.ensures in
    open_partial c.args.part.now c.requires.judged f.partial f.unfinished
