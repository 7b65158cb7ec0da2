use Rattle.std.proofs.Common.{ℕ, Bool, List, [], ◌∷◌, ◌++◌, map, ap, ◌∙◌}
use Rattle.cmis_spec.specs.Access.{reads}
use Rattle.cm_removal.proofs.marks.readers_of.Goals as goal

pub returns : goal.returns
returns c =
    let f : List ℕ → Bool = λ u. reads c.args.state.now u c.args.x.now in
    c.in_ok-all.ensures ∙ (λ k. (c.in_ok-marks.ensures ∙ ap (map f) (c.as_slice.ensures ∙ c.users.ensures)) k ++ (c.reads.ensures ∙ ap f c.in_ok-anybody.ensures) k ∷ [])
