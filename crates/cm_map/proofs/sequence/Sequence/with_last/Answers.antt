use Rattle.std.proofs.Common.{◌∙◌, sym, ap, ◌++◌, ◌∷◌, [], map}
use Rattle.std.specs.List.{enumerate_from}
use Rattle.cm_map.proofs.ByPlace.{with-end, map-enumerate}
use Rattle.cm_map.proofs.sequence.Sequence.with_last.Goals as goal

pub invariant_of-result : goal.invariant_of-result
invariant_of-result g c =
    let e = with-end c.self.inside.entries _ _ c.args.member c.self.invariant c.len.ensures.len c.in_ok-entries.ensures in
    e ∙ ap (enumerate_from 0) (sym (ap (map (λ e. e.1)) e ∙ map-enumerate 0 _))

pub returns : goal.returns
returns g c =
    let e = with-end c.self.inside.entries _ _ c.args.member c.self.invariant c.len.ensures.len c.in_ok-entries.ensures in
    ap (map (λ e. e.1)) e ∙ (map-enumerate 0 _ ∙ ap (λ j. j ++ c.args.member ∷ []) c.self.view_is)
