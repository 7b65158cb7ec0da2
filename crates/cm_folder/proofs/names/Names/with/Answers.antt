use Rattle.std.proofs.Common.{Some}
use Rattle.cm_folder.proofs.Named.{found_under, found_more}
use Rattle.cm_folder.proofs.names.Names.with.Goals as goal

pub returns : goal.returns
returns c = found_under c.in_ok-names.names c.args.self.now c.args.folder c.args.name.now c.in_ok-children.children c.args.place (Some c.args.child) c.in_ok-names.ensures
    (found_more c.args.self.now (c.args.folder, c.args.name.now) c.args.place c.args.child c.in_ok-children.children c.in_ok-children.ensures)
