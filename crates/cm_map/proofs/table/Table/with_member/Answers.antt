use Rattle.std.specs.Ordering.{nat_cmp}
use Rattle.std.proofs.Common.{◌≡◌, ◌==◌, ◌∙◌, sym, ap, subst, map, find, is_some, true, if◌then◌else◌}
use Rattle.core.specs.FinMap.Entries as entries
use Rattle.cm_map.proofs.Tables.{put-in, stays_keyed, list_of, rises}
use Rattle.cm_map.proofs.table.Table.with_member.Goals as goal

pub invariant_of-result : goal.invariant_of-result
invariant_of-result g c =
    stays_keyed g.V.Numbered.number _ _ (c.in_ok-entries.ensures ∙ (ap (λ k. entries.put nat_cmp k c.args.member c.self.inside.entries) c.number-number.ensures
    ∙ (ap (entries.put nat_cmp (g.V.Numbered.number c.args.member) c.args.member) c.self.invariant
    ∙ put-in g.V.Numbered.number c.args.member _ (rises g.V.Numbered.number c.self.inside.entries c.self.invariant c.len-rising.ensures.sorted)
    (subst (λ xs. is_some (find (λ x. (g.V.Numbered.number x) == (g.V.Numbered.number c.args.member)) xs) ≡ true) (sym c.self.view_is) c.requires.there))))

pub returns : goal.returns
returns g c =
    list_of g.V.Numbered.number _ _ (c.in_ok-entries.ensures ∙ (ap (λ k. entries.put nat_cmp k c.args.member c.self.inside.entries) c.number-number.ensures
    ∙ (ap (entries.put nat_cmp (g.V.Numbered.number c.args.member) c.args.member) c.self.invariant
    ∙ put-in g.V.Numbered.number c.args.member _ (rises g.V.Numbered.number c.self.inside.entries c.self.invariant c.len-rising.ensures.sorted)
    (subst (λ xs. is_some (find (λ x. (g.V.Numbered.number x) == (g.V.Numbered.number c.args.member)) xs) ≡ true) (sym c.self.view_is) c.requires.there))))
    ∙ ap (map (λ x. if (g.V.Numbered.number x) == (g.V.Numbered.number c.args.member) then c.args.member else x)) c.self.view_is
