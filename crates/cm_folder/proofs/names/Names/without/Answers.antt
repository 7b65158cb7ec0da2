use Rattle.std.proofs.Common.{None}
use Rattle.cm_folder.proofs.Named.{found_under, found_fewer}
use Rattle.cm_folder.proofs.names.Names.without.Goals as goal

pub returns : goal.returns
returns c = found_under c.in_ok-names.names c.args.self.now c.args.folder c.args.name.now c.in_ok-children.children c.args.place None c.in_ok-names.ensures
    (found_fewer c.args.self.now (c.args.folder, c.args.name.now) c.args.place c.in_ok-children.children c.in_ok-children.ensures)
