use Rattle.std.proofs.Common.{◌∙◌, ◌<◌, ◌++◌, [], length, map, take, ap, arith}
use Rattle.std.specs.Option.{option_to_list}
use Rattle.cm_base.specs.declared.number.Oid.{Oid}
use Rattle.cm_base.specs.declared.object.Object.{Object}
use Rattle.cmis_spec.specs.Access.{read_named}
use Rattle.wr_rules.specs.Rules.{read_all}
use Rattle.wr_rules.proofs.Asked.{found_more, of_option}
use Rattle.wr_rules.proofs.policies.numbers_in.Goals as goal

pub loop-id-preserved : goal.loop-id-preserved
loop-id-preserved c =
    let ids = c.args.ids.now in
    let i = c.loop-id.id-index in
    let lt : i < length ids = omega arith in
    let h = read_named c.args.state.now c.args.user.now in
    let f : Object → Oid = λ x. x.id in
    c.in_ok-numbers.ensures
    ∙ ap (λ l. l ++ option_to_list c.number_of.result) c.loop-id.invariant
    ∙ ap (λ o. map f (read_all c.args.state.now c.args.user.now (take i ids)) ++ option_to_list o) c.number_of.ensures
    ∙ ap (λ l. map f (read_all c.args.state.now c.args.user.now (take i ids)) ++ l) (of_option f (h c.id-item.result))
    ∙ ap (λ id. map f (read_all c.args.state.now c.args.user.now (take i ids)) ++ map f (option_to_list (h id))) c.id-item.is
    ∙ found_more f h [] ids i c.id-item.result lt
