use Rattle.std.proofs.Common.{◌≡◌, ◌<◌, ◌∙◌, [], true, false, ap, sym, length, get_or, arith, rules}
use Rattle.std.specs.Prelude.{Some}
use Rattle.http_grammar.specs.Fields.{same_word}
use Rattle.bind_form.specs.Forms.{first_item}
use Rattle.bind_form.proofs.Named.{named_here, named_later, named_none}
use Rattle.bind_form.proofs.fields.first_value.Goals as goal

pub returns-then-is_named : goal.returns-then-is_named
returns-then-is_named c =
    let lt : c.loop-i.i < length c.args.head.now.fields = omega (arith, c.loop-i-test.true, c.count-i-end.ensures) in
    let same : same_word (get_or c.args.head.now.fields c.loop-i.i ([], [])).0 c.args.name.now ≡ true = search (rules, c.is_named.ensures) in
    let here = ap first_item (named_here c.args.name.now c.args.head.now.fields c.loop-i.i ([], []) lt same) in
    ap Some (c.value.ensures) ∙ sym here ∙ c.loop-i.invariant

pub loop-i-preserved : goal.loop-i-preserved
loop-i-preserved c =
    let lt : c.loop-i.i < length c.args.head.now.fields = omega (arith, c.loop-i-test.true, c.count-i-end.ensures) in
    let same : same_word (get_or c.args.head.now.fields c.loop-i.i ([], [])).0 c.args.name.now ≡ false = search (rules, c.is_named.ensures) in
    sym (ap first_item (named_later c.args.name.now c.args.head.now.fields c.loop-i.i ([], []) lt same)) ∙ c.loop-i.invariant

pub returns : goal.returns
returns c =
    let none = ap first_item (named_none c.args.name.now c.args.head.now.fields c.loop-i.i (omega (arith, c.loop-i-test.false, c.loop-i.auto.i-end, c.count-i-end.ensures))) in
    sym none ∙ c.loop-i.invariant
