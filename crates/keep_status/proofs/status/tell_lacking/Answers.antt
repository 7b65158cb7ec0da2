use Rattle.std.specs.Prelude.{codes}
use Rattle.keep_status.proofs.Lines.{told_by}
use Rattle.keep_status.proofs.status.tell_lacking.Goals as goal

pub returns : goal.returns
returns g c =
    let told = g.O.Sink.told in
    told_by 10 c.as_bytes.result.now c.bytes.result.now (codes "journal has a user that the words lack: ") c.args.name.now (told c.args.output.now) (told c.tell.new.output) c.tell.result
    c.as_bytes.ensures.value c.bytes.ensures c.tell.ensures
