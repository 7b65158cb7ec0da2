use Rattle.std.proofs.Common.{ℕ, List, length, sym, arith, rules}
use Rattle.std.proofs.lemmas.List.Sums.{position_or_len_is}
use Rattle.schedule_lines.specs.Scripts.{is_line_feed}
use Rattle.schedule_lines.proofs.ahead.line_len.Goals as goal

pub returns-in-Some-clause-len : goal.returns-in-Some-clause-len
returns-in-Some-clause-len c = sym (position_or_len_is is_line_feed c.args.bytes.now c.in-Some.place 0 (search rules) (search rules) (search rules))

pub returns-in-None-clause-len : goal.returns-in-None-clause-len
returns-in-None-clause-len c =
    let input : List ℕ = c.args.bytes.now in
    sym (position_or_len_is is_line_feed input (length input) 0 (omega arith) (search rules) (search rules))
