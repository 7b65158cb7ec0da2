use Rattle.std.proofs.Common.{ℕ, Bool, List, [], ◌∷◌, ◌++◌, map, take, sym, ap, ◌∙◌}
use Rattle.std.proofs.lemmas.List.{map_more}
use Rattle.cmis_spec.specs.Access.{reads}
use Rattle.cm_removal.proofs.marks.marks_of.Goals as goal

pub loop-user-preserved : goal.loop-user-preserved
loop-user-preserved c =
    let i = c.loop-user.user-index in
    let us = c.args.users.now in
    let f : List ℕ → Bool = λ u. reads c.args.state.now u c.args.x.now in
    c.in_ok-marks.ensures ∙ ((λ k. c.loop-user.invariant k ++ c.reads.ensures k ∷ [])
    ∙ (ap (λ u. map f (take i us) ++ f u ∷ []) c.user-item.is ∙ sym (map_more f us i c.user-item.result c.loop-user-test.true)))
