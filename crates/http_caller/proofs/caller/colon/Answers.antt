use Rattle.std.proofs.Common.{ℕ, List, length, sym, arith, rules}
use Rattle.std.proofs.lemmas.List.Sums.{position_or_len_is}
use Rattle.http_caller.specs.Callers.{is_colon}
use Rattle.http_caller.proofs.caller.colon.Goals as goal

pub returns-in-Some : goal.returns-in-Some
returns-in-Some c = sym (position_or_len_is is_colon c.args.text.now c.in-Some.place 0 (search rules) (search rules) (search rules))

pub returns-in-None : goal.returns-in-None
returns-in-None c =
    let input : List ℕ = c.args.text.now in
    sym (position_or_len_is is_colon input (length input) 0 (omega arith) (search rules) (search rules))
