use Rattle.std.proofs.Common.{◌∙◌, ap, codes}
use Rattle.serde_json.specs.View.{view}
use Rattle.type_json.specs.Reading.{scalars_in}
use Rattle.type_json.proofs.asked.own_default.Goals as goal

pub returns : goal.returns
returns c = c.in_ok-all.ensures ∙ ap (λ k. scalars_in k (codes "defaultValue") (view c.args.value.now)) c.kind_in.ensures
