use Rattle.std.proofs.Common.{◌∙◌, ap, List, ℕ}
use Rattle.std.specs.Prelude.{slice_range}
use Rattle.archive.proofs.Parts.{stands_cut}
use Rattle.archive.proofs.extent.Extent.of_part.Goals as goal

pub invariant_of-result : goal.invariant_of-result
invariant_of-result c =
    stands_cut c.args.archive.value c.args.place c.args.from c.args.to c.args.whole.now.value.items c.of.result.value
    c.requires.stands c.requires.ordered c.requires.within (c.of.ensures ∙ ap (λ v. slice_range v.items c.args.from c.args.to) c.in_ok-try_clone.ensures)
