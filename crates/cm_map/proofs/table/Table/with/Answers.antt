use Rattle.std.specs.Ordering.{nat_cmp}
use Rattle.std.proofs.Common.{◌∙◌, ap, nat_lt, filter, ◌++◌, ◌∷◌}
use Rattle.core.specs.FinMap.Entries as entries
use Rattle.cm_map.proofs.Tables.{stays_keyed, list_of, rises}
use Rattle.cm_map.proofs.Put.{put-keyed}
use Rattle.cm_map.proofs.table.Table.with.Goals as goal

pub invariant_of-result : goal.invariant_of-result
invariant_of-result g c =
    stays_keyed g.V.Numbered.number _ _ (c.in_ok-entries.ensures ∙ (ap (λ k. entries.put nat_cmp k c.args.member c.self.inside.entries) c.number-number.ensures
    ∙ (ap (entries.put nat_cmp (g.V.Numbered.number c.args.member) c.args.member) c.self.invariant
    ∙ put-keyed g.V.Numbered.number c.args.member _ (rises g.V.Numbered.number c.self.inside.entries c.self.invariant c.len-rising.ensures.sorted))))

pub returns : goal.returns
returns g c =
    list_of g.V.Numbered.number _ _ (c.in_ok-entries.ensures ∙ (ap (λ k. entries.put nat_cmp k c.args.member c.self.inside.entries) c.number-number.ensures
    ∙ (ap (entries.put nat_cmp (g.V.Numbered.number c.args.member) c.args.member) c.self.invariant
    ∙ put-keyed g.V.Numbered.number c.args.member _ (rises g.V.Numbered.number c.self.inside.entries c.self.invariant c.len-rising.ensures.sorted))))
    ∙ ap (λ xs. filter (λ x. nat_lt (g.V.Numbered.number x) (g.V.Numbered.number c.args.member)) xs ++ c.args.member ∷ filter (λ x. nat_lt (g.V.Numbered.number c.args.member) (g.V.Numbered.number x)) xs) c.self.view_is
