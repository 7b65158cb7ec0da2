use Rattle.std.proofs.Common.{option_copied, option_map, sym, ap, ◌∙◌}
use Rattle.cm_folder.specs.declared.entry.FilingEntry.{FilingEntry}
use Rattle.cm_folder.proofs.Lookups.{folder_first}
use Rattle.cm_folder.proofs.filing.Filing.folder_of.Goals as goal

pub returns-in-Some : goal.returns-in-Some
returns-in-Some c = ap (option_map (λ (e : FilingEntry). e.folder)) (ap option_copied (sym c.in-Some.is) ∙ c.first_entry.ensures) ∙ sym (folder_first c.args.child c.args.self.now)

pub returns-in-None : goal.returns-in-None
returns-in-None c = ap (option_map (λ (e : FilingEntry). e.folder)) (ap option_copied (sym c.in-None.is) ∙ c.first_entry.ensures) ∙ sym (folder_first c.args.child c.args.self.now)
