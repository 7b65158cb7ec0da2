use Rattle.std.proofs.Common.{◌<◌, ◌∙◌, sym, ap, subst, ◌++◌, ◌∷◌, [], All}
use Rattle.cm_map.proofs.Tables.{with-last, stays_keyed, list_of}
use Rattle.cm_map.proofs.table.Table.with_last.Goals as goal

pub invariant_of-result : goal.invariant_of-result
invariant_of-result g c =
    stays_keyed g.V.Numbered.number _ _ (with-last g.V.Numbered.number c.self.inside.entries _ _ c.args.member c.self.invariant c.number-number.ensures
    (subst (All (λ x. (g.V.Numbered.number x) < (g.V.Numbered.number c.args.member))) (sym c.self.view_is) c.requires.above) c.in_ok-entries.ensures)

pub returns : goal.returns
returns g c =
    list_of g.V.Numbered.number _ _ (with-last g.V.Numbered.number c.self.inside.entries _ _ c.args.member c.self.invariant c.number-number.ensures
    (subst (All (λ x. (g.V.Numbered.number x) < (g.V.Numbered.number c.args.member))) (sym c.self.view_is) c.requires.above) c.in_ok-entries.ensures)
    ∙ ap (λ xs. xs ++ c.args.member ∷ []) c.self.view_is
