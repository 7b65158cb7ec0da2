use Rattle.std.proofs.Common.{ap, ◌∙◌, ◌++◌}
use Rattle.json.specs.Print.{print}
use Rattle.serde_json.proofs.Texts.{print-outline}
use Rattle.json_text.proofs.write.Writer.into_vec.Goals as goal

-- nothing stood before the tokens
pub returns : goal.returns
returns c = λ d e. c.into_inner.ensures.items ∙ ap (λ b. b ++ print c.self.inside.out.tokens) c.self.invariant ∙ ap print (c.self.view_is ∙ e) ∙ print-outline d
