use Rattle.std.specs.Ordering.{nat_cmp}
use Rattle.std.proofs.Common.{◌==◌, ◌∙◌, ap, filter, not}
use Rattle.cm_map.specs.Parts.{without_key}
use Rattle.cm_map.proofs.Tables.{without-keyed, stays_keyed, list_of}
use Rattle.cm_map.proofs.table.Table.without.Goals as goal

pub invariant_of-result : goal.invariant_of-result
invariant_of-result g c =
    stays_keyed g.V.Numbered.number _ _ (c.in_ok-entries.ensures ∙ (ap (without_key nat_cmp c.args.number) c.self.invariant ∙ without-keyed g.V.Numbered.number c.args.number _))

pub returns : goal.returns
returns g c =
    list_of g.V.Numbered.number _ _ (c.in_ok-entries.ensures ∙ (ap (without_key nat_cmp c.args.number) c.self.invariant ∙ without-keyed g.V.Numbered.number c.args.number _))
    ∙ ap (filter (λ x. not ((g.V.Numbered.number x) == c.args.number))) c.self.view_is
