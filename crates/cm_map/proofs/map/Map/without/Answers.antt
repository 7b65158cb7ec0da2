use Rattle.std.proofs.Common.{◌-◌, is_some, sym, ap, ◌∙◌}
use Rattle.cm_map.proofs.Rowing.{is_some-copied, without_key_old, without_key_new}
use Rattle.cm_map.proofs.map.Map.without.Goals as goal
use Rattle.cm_map.proofs.map.Map.without.Goals.{then-is_some, else-is_some}

pub edited-requires-clause-len : goal.edited-requires-clause-len
edited-requires-clause-len g c =
    let R = g.K.Ord.cmp in
    let es = c.args.self.now in
    let k = c.args.key.now in
    let b = sym (ap is_some c.get.ensures) ∙ is_some-copied c.get.result ∙ sym c.is_some.ensures in
    elim c.if-is_some.branch [
      | then-is_some w ↦ w.len-is ∙ ap (λ n. n - 1) c.len-old.ensures.len ∙ sym (without_key_old R g.met.K.Ord.total k es c.len-old.ensures.sorted (b ∙ w.if-is_some.true))
      | else-is_some w ↦ w.len-is ∙ c.len-old.ensures.len ∙ sym (without_key_new R g.met.K.Ord.total k es c.len-old.ensures.sorted (b ∙ w.if-is_some.false))
    ]
