use Rattle.std.proofs.Common.{◌≡◌, ◌∙◌, arith, rules}
use Rattle.std.specs.Prelude.{Some, None}
use Rattle.form_args.specs.Pairs.{first_of, indexed}
use Rattle.form_args.proofs.Listing.{texts_next, texts_whole}
use Rattle.form_args.proofs.lists.texts.Goals as goal

pub loop-i-preserved : goal.loop-i-preserved
loop-i-preserved c =
    let some : first_of c.args.pairs.now (indexed c.args.name.now c.loop-i.i) ≡ Some c.in_ok-copied-in-Some.field-0 = search rules in
    rw c.in_ok-push-in-Some.ensures.items (texts_next c.args.pairs.now c.args.name.now c.in_ok-copied-in-Some.field-0 c.loop-i.values.items _ c.loop-i.i (omega arith) some c.loop-i.invariant)

pub returns-in-None : goal.returns-in-None
returns-in-None c =
    let none : first_of c.args.pairs.now (indexed c.args.name.now c.loop-i.i) ≡ None = search rules in
    c.from_vec.ensures ∙ texts_whole c.args.pairs.now c.args.name.now c.loop-i.values.items _ _ c.loop-i.i none c.loop-i.invariant
