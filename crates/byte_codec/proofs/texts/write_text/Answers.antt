use Rattle.std.proofs.Common.{List, ℕ, subst}
use Rattle.byte_codec.specs.Codecs.{Writes}
use Rattle.byte_codec.specs.Numbers.{bytes}
use Rattle.byte_codec.proofs.Utf8.{text_written}
use Rattle.byte_codec.proofs.texts.write_text.Goals as goal

pub returns : goal.returns
returns c =
    text_written c.args.words.now c.args.out.now.items c.write_bytes.new.out.items c.utf8.words
    (subst (λ (t : List ℕ). Writes bytes t c.args.out.now.items c.write_bytes.new.out.items) c.as_bytes.ensures.value c.in_ok-write_bytes.ensures)
