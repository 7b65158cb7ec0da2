use Rattle.std.proofs.Common.{◌+◌, ap, ◌∙◌}
use Rattle.call_parts.specs.Weight.{bounded}
use Rattle.wr_rules.proofs.TextCosts.{texts_cost}
use Rattle.wr_rules.proofs.copied.with_texts.Goals as goal

pub returns : goal.returns
returns c = c.with_each.ensures ∙ ap (λ n. bounded (c.args.so_far + n)) (texts_cost c.args.all.now)
