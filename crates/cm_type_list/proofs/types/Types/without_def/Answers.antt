use Rattle.std.proofs.Common.{◌∙◌, ap, sym, subst}
use Rattle.cm_types.specs.Changes.{without_type}
use Rattle.type_requests.specs.Keys.{IsKeyed, values_of}
use Rattle.type_requests.proofs.Keyed.{keyed_without, without_name}
use Rattle.cm_type_list.proofs.types.Types.without_def.Goals as goal

pub invariant_of-result : goal.invariant_of-result
invariant_of-result c =
    subst (IsKeyed (λ t. t.id)) (sym c.in_ok-map.ensures) (keyed_without (λ t. t.id) c.args.id.now c.self.inside.map c.self.invariant)

pub returns : goal.returns
returns c =
    ap values_of c.in_ok-map.ensures
    ∙ without_name (λ t. t.id) c.args.id.now c.self.inside.map c.self.invariant
    ∙ ap (λ types. without_type types c.args.id.now) c.self.view_is
