use Rattle.std.proofs.Common.{◌++◌, ◌∙◌, ap, codes}
use Rattle.serde_json.specs.Data.{string}
use Rattle.json_text.specs.Tokens.{field_tokens}
use Rattle.show_json.proofs.value.write_local_name.Goals as goal

pub returns : goal.returns
returns c = c.in_ok-write_text.ensures ∙ ap (λ t. c.args.out.now ++ field_tokens (codes "localName", string t)) c.as_str.ensures
