use Rattle.std.proofs.Common.{filter_map, ap, ◌∙◌}
use Rattle.cm_folder.specs.Filings.{edit_child}
use Rattle.place_laws.proofs.Clearing.{list_changed}
use Rattle.cm_folder.proofs.filing.Filing.edited.Goals as goal

pub returns : goal.returns
returns c =
    let f = edit_child c.args.edit.now c.args.child in
    list_changed f c.self.inside.parts.entries c.in_ok-parts.parts.entries c.self.invariant.indexed.sorted c.in_ok-parts.ensures.indexed.sorted c.in_ok-parts.ensures.found ∙ ap (filter_map f) c.self.view_is
