use Rattle.std.proofs.Common.{ℕ, ◌+◌, ◌==◌, length, take, drop, sym, ap, ◌∙◌, arith, rules, take_all}
use Rattle.std.proofs.lemmas.List.Sums.{position_or_len_is}
use Rattle.std.proofs.lemmas.List.{take_rest, drop_all}
use Rattle.form_parts.proofs.line.cut.Goals as goal

pub returns-in-Some-clause-before : goal.returns-in-Some-clause-before
returns-in-Some-clause-before c =
    let found = position_or_len_is (λ (b : ℕ). b == 13) c.args.text.now c.in-Some.i 0 (search rules) (search rules) (search rules) in
    ap (λ n. take n c.args.text.now) (sym found)

pub returns-in-Some-clause-after : goal.returns-in-Some-clause-after
returns-in-Some-clause-after c =
    let found = position_or_len_is (λ (b : ℕ). b == 13) c.args.text.now c.in-Some.i 0 (search rules) (search rules) (search rules) in
    take_rest c.args.text.now _ ∙ ap (λ n. drop (n + 1) c.args.text.now) (sym found)

pub returns-in-None-clause-before : goal.returns-in-None-clause-before
returns-in-None-clause-before c =
    let input = c.args.text.now in
    let none = position_or_len_is (λ (b : ℕ). b == 13) input (length input) 0 (omega arith) (search rules) (search rules) in
    sym (ap (λ n. take n input) none ∙ take_all (length input) input (omega arith))

pub returns-in-None-clause-after : goal.returns-in-None-clause-after
returns-in-None-clause-after c =
    let input = c.args.text.now in
    let none = position_or_len_is (λ (b : ℕ). b == 13) input (length input) 0 (omega arith) (search rules) (search rules) in
    sym (ap (λ n. drop (n + 1) input) none ∙ drop_all (length input + 1) input (omega arith))
