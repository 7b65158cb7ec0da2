use Rattle.std.proofs.Common.{◌<◌, ◌≤◌, arith}
use Rattle.write_codec.proofs.Tags.{no_call}
use Rattle.write_codec.proofs.fields.read_fields.Goals as goal

pub returns-in_default : goal.returns-in_default
returns-in_default c =
    let none : ¬ ((0 < c.args.tag) × (c.args.tag ≤ 26)) = λ k. let low : 0 < c.args.tag = k.0 in let high : c.args.tag ≤ 26 = k.1 in omega (arith, low, high) in
    no_call c.args.tag c.args.from.now none
