use Rattle.std.proofs.Common.{ap, find, ◌∙◌}
use Rattle.cm_folder.specs.Filings.{is_entry}
use Rattle.cm_folder.proofs.filing.Filing.entry_under.Goals as goal

pub returns : goal.returns
returns c = c.entry_under.ensures ∙ ap (find (is_entry c.args.folder c.args.child)) c.self.view_is
