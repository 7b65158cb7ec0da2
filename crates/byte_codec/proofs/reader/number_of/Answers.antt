use Rattle.std.proofs.Common.{◌∙◌, ap, sym, Some, ℕ, arith}
use Rattle.byte_codec.proofs.EightBytes.{number_is}
use Rattle.byte_codec.proofs.reader.number_of.Goals as goal

pub returns : goal.returns
returns c = number_is c.args.front.now c.requires (λ i. omega (arith, c.type_inv.front i)) ∙ ap (λ (n : ℕ). Some n) (sym c.from_be_bytes.ensures)
