use Rattle.std.proofs.Common.{◌∙◌, List, ℕ, sym}
use Rattle.std.specs.Prelude.{codes}
use Rattle.http_grammar.specs.Fields.{same_word}
use Rattle.http_wire.proofs.NamedValues.{any_named}
use Rattle.http_wire.proofs.fields.has_expect.Goals as goal

pub returns : goal.returns
returns c =
    c.any_expects.ensures ∙ sym (any_named (λ (v : List ℕ). same_word v (codes "100-continue")) (codes "expect") c.args.text.now c.args.fields.now)
