use Rattle.form_parts.proofs.Both.{split-one}
use Rattle.form_parts.proofs.laws.split_is_one.Goals as goal

pub returns : goal.returns
returns c = split-one
