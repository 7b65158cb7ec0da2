use Rattle.std.proofs.Common.{[], ◌∷◌, ◌++◌, ap, ◌∙◌}
use Rattle.std.proofs.lemmas.List.{append_assoc}
use Rattle.cm_removal.proofs.ties.with_one.Goals as goal

pub returns : goal.returns
returns c = c.in_ok-more.ensures ∙ ((λ k. c.in_ok-own.ensures k ++ c.as_slice.ensures k)
    ∙ (append_assoc c.args.all (c.args.n ∷ []) c.in_ok-ties.ties ∙ ap (λ l. c.args.all ++ l) c.in_ok-ties.ensures))
