use Rattle.std.proofs.Common.{map, filter, ap, ◌∙◌}
use Rattle.std.proofs.lemmas.List.{take_all}
use Rattle.cm_map.specs.Parts.{pointee, within}
use Rattle.cm_map.specs.Sets.{key_of}
use Rattle.cm_map.proofs.Keyed.{keys_where}
use Rattle.cm_map.proofs.set.Set.range.Goals as goal

pub returns : goal.returns
returns g c =
    c.loop-e.invariant
    ∙ ap (λ l. map key_of (map pointee l)) (take_all c.loop-e.e-index c.deref-e-items.result.now c.loop-e-test.false ∙ c.deref-e-items.ensures.value)
    ∙ ap (map key_of) c.in_ok-entries.ensures
    ∙ keys_where g.K.Ord.cmp _ c.self.inside.entries
    ∙ ap (filter (within g.K.Ord.cmp c.args.least.now c.args.most.now)) c.self.view_is
