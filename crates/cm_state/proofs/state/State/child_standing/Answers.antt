use Rattle.std.proofs.Common.{◌∙◌, sym, ap, ◌&&◌, if◌then◌else◌, Some, None, find, option_and_then, bytes_eq}
use Rattle.cmis_spec.specs.Repository.{is_filed, entry_of, entry_name}
use Rattle.cmis_spec.specs.Access.{stands}
use Rattle.cm_state.specs.Looks.{standing_at}
use Rattle.cm_state.proofs.Among.{standing_is}
use Rattle.cm_state.proofs.state.State.child_standing.Goals as goal

pub returns-in-Some : goal.returns-in-Some
returns-in-Some c keep =
    let r = c.self.inside.parts in
    ap (λ r. find (λ x. (is_filed r c.args.folder (entry_of x) && stands r x && keep x) && bytes_eq (entry_name r (entry_of x)) c.args.name.now) r.objects) (sym c.self.view_is)
    ∙ (standing_is r c.self.invariant c.args.folder c.args.name.now keep
    ∙ ap (option_and_then (λ x. if keep x then Some x else None)) (ap (option_and_then (standing_at r)) (sym c.child_named.ensures ∙ c.in-Some.is) ∙ sym c.standing.ensures))

pub returns-in-None : goal.returns-in-None
returns-in-None c keep =
    let r = c.self.inside.parts in
    ap (λ r. find (λ x. (is_filed r c.args.folder (entry_of x) && stands r x && keep x) && bytes_eq (entry_name r (entry_of x)) c.args.name.now) r.objects) (sym c.self.view_is)
    ∙ (standing_is r c.self.invariant c.args.folder c.args.name.now keep
    ∙ ap (λ o. option_and_then (λ x. if keep x then Some x else None) (option_and_then (standing_at r) o)) (sym c.child_named.ensures ∙ c.in-None.is))
