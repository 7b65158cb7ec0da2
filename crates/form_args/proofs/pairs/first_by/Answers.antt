use Rattle.std.proofs.Common.{◌≡◌, ◌∙◌, [], ap, sym, rules}
use Rattle.std.specs.Prelude.{Some, None}
use Rattle.std.specs.BTreeMap.{get_by_text}
use Rattle.form_args.specs.declared.pairs.Pair.{Pair}
use Rattle.form_args.proofs.pairs.first_by.Goals as goal

pub value_at-requires : goal.value_at-requires
value_at-requires c = let h = c.requires.within c.args.name.now in search (rules, h)

pub returns-in-Some : goal.returns-in-Some
returns-in-Some c =
    let at : get_by_text c.args.places.now c.args.name.now ≡ Some c.in-Some.place.now = search rules in
    let none : Pair = record { name = []; value = [] } in
    let found = c.requires.finds c.args.name.now none in
    ap Some (c.value_at.ensures none) ∙ sym (rw at at found)

pub returns-in-None : goal.returns-in-None
returns-in-None c =
    let at : get_by_text c.args.places.now c.args.name.now ≡ None = search rules in
    let found = c.requires.finds c.args.name.now (record { name = []; value = [] }) in
    sym (rw at at found)
