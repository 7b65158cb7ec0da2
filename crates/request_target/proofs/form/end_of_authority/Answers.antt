use Rattle.std.proofs.Common.{length, sym, arith, rules}
use Rattle.std.proofs.lemmas.List.Sums.{position_or_len_is}
use Rattle.request_target.specs.Form.{ends_authority}
use Rattle.request_target.proofs.form.end_of_authority.Goals as goal

pub returns-in-Some : goal.returns-in-Some
returns-in-Some c = sym (position_or_len_is ends_authority c.args.text.now c.in-Some.i 0 (search rules) (search rules) (search rules))

pub returns-in-None : goal.returns-in-None
returns-in-None c = sym (position_or_len_is ends_authority c.args.text.now (length c.args.text.now) 0 (omega arith) (search rules) (search rules))
