use Rattle.std.proofs.Common.{option_and_then, sym, ap, ◌∙◌}
use Rattle.core.specs.Ordering.{nat_cmp}
use Rattle.core.specs.FinMap.Entries.{find}
use Rattle.cm_folder.proofs.Lookups.{first_same}
use Rattle.cm_folder.proofs.parts.Parts.first_entry.Goals as goal

pub returns-in-Some : goal.returns-in-Some
returns-in-Some c =
    let es = c.args.self.now.entries in
    c.get.ensures ∙ (ap (option_and_then (λ p. find nat_cmp p es)) (sym c.in-Some.is ∙ c.first_place_of.ensures) ∙ first_same c.args.child es c.requires.indexed.sorted)

pub returns-in-None : goal.returns-in-None
returns-in-None c =
    let es = c.args.self.now.entries in
    ap (option_and_then (λ p. find nat_cmp p es)) (sym c.in-None.is ∙ c.first_place_of.ensures) ∙ first_same c.args.child es c.requires.indexed.sorted
