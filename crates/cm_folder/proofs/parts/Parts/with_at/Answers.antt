use Rattle.std.proofs.Common.{cond, ◌==◌, sym, ap, ◌∙◌}
use Rattle.core.specs.Ordering.{nat_cmp}
use Rattle.core.specs.FinMap.Entries.{find}
use Rattle.cm_folder.proofs.Indexing.{put_after}
use Rattle.cm_folder.proofs.parts.Parts.with_at.Goals as goal

pub returns-in_ok-parts-in-Some-clause-found : goal.returns-in_ok-parts-in-Some-clause-found
returns-in_ok-parts-in-Some-clause-found c p =
    let es = c.args.self.now.entries in
    put_after c.args.place c.in-Some.entry es c.in_ok-cleared.cleared.entries c.in_ok-parts-in-Some.parts.entries c.in_ok-cleared.ensures.found c.in_ok-parts-in-Some.ensures.entries p
    ∙ ap (λ o. cond (p == c.args.place) o (find nat_cmp p es)) (sym c.in-Some.is)
