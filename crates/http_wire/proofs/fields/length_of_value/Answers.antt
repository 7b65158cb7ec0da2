use Rattle.std.proofs.Common.{◌∙◌, ap}
use Rattle.http_wire.specs.Found.{below_half}
use Rattle.http_wire.proofs.Digits.{length_is_half}
use Rattle.http_wire.proofs.fields.length_of_value.Goals as goal

pub returns : goal.returns
returns c = c.below_half.ensures ∙ ap below_half c.number.ensures ∙ length_is_half c.args.value.now
