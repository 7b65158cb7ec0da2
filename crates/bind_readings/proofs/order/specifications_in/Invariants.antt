use Rattle.std.proofs.Common.{◌≡◌, [], map, drop}
use Rattle.form_args.specs.Filter.{each_onto}
use Rattle.bind_readings.specs.Order.{read_specification}
use Rattle.bind_readings.proofs.order.specifications_in.Given as goal

abbrev pub invariant-loop-text : goal.invariant-loop-text
invariant-loop-text l = each_onto read_specification [] (map (λ x. x.now) l.texts) ≡ each_onto read_specification l.all.items (map (λ x. x.now) (drop l.text-index l.texts))
