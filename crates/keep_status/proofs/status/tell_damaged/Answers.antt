use Rattle.std.specs.Prelude.{codes, decimal}
use Rattle.std.proofs.Common.{◌∙◌}
use Rattle.keep_status.proofs.Lines.{told_by}
use Rattle.keep_status.proofs.status.tell_damaged.Goals as goal

pub returns : goal.returns
returns g c =
    let told = g.O.Sink.told in
    told_by 11 c.as_bytes.result.now c.as_bytes-2.result.now (codes "journal is damaged at ") (decimal c.args.entries) (told c.args.output.now) (told c.tell.new.output) c.tell.result
    c.as_bytes.ensures.value (c.as_bytes-2.ensures.value ∙ c.format-digits.ensures.text) c.tell.ensures
