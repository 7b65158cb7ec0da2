use Rattle.std.proofs.Common.{◌∙◌, ap}
use Rattle.cm_types.specs.Types.{type_in}
use Rattle.type_requests.proofs.Keyed.{find_name}
use Rattle.cm_type_list.proofs.types.Types.find.Goals as goal

pub returns : goal.returns
returns c =
    c.get.ensures ∙ find_name (λ t. t.id) c.args.id.now c.self.inside.map c.self.invariant
    ∙ ap (λ types. type_in types c.args.id.now) c.self.view_is
