use Rattle.std.proofs.Common.{option_copied, sym, ap, ◌∙◌}
use Rattle.core.specs.Ordering.{nat_cmp}
use Rattle.core.specs.FinMap.Entries.{find}
use Rattle.cm_folder.specs.declared.parts.Parts.{Parts}
use Rattle.cm_folder.proofs.Indexing.{changed_child}
use Rattle.cm_folder.proofs.parts.Parts.edited.Goals as goal

pub returns-in_ok-parts-in-Some-clause-found : goal.returns-in_ok-parts-in-Some-clause-found
returns-in_ok-parts-in-Some-clause-found c p =
    let s = c.args.self.now in
    c.in_ok-parts-in-Some.ensures.found p ∙ changed_child c.args.edit.now c.args.child s.entries s.by_child s.by_folder s.by_name c.requires.indexed _ (ap option_copied (sym c.in-Some.is) ∙ c.bucket.ensures) p

pub returns-in_ok-parts-in-None-clause-found : goal.returns-in_ok-parts-in-None-clause-found
returns-in_ok-parts-in-None-clause-found c p =
    let s = c.args.self.now in
    ap (λ (t : Parts). find nat_cmp p t.entries) c.in_ok-parts-in-None.ensures ∙ changed_child c.args.edit.now c.args.child s.entries s.by_child s.by_folder s.by_name c.requires.indexed _ (ap option_copied (sym c.in-None.is) ∙ c.bucket.ensures) p
