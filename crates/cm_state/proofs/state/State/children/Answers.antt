use Rattle.std.proofs.Common.{◌∙◌, sym, ap, map, unwrap_or, option_copied, []}
use Rattle.std.specs.List.{list_any}
use Rattle.cm_state.specs.Looks.{numbers_in, has_number, standing_at}
use Rattle.cm_state.proofs.Among.{children_are}
use Rattle.cm_state.proofs.Numbers.{any_values}
use Rattle.cm_state.proofs.state.State.children.Goals as goal

pub returns-in_ok-all-in-Some : goal.returns-in_ok-all-in-Some
returns-in_ok-all-in-Some c =
    let r = c.self.inside.parts in
    let at = ap (λ m. map (λ e. e.1) (unwrap_or m [])) (ap option_copied (sym c.in-Some.is)) ∙ c.entries.ensures in
    children_are r c.self.invariant c.args.folder c.in_ok-all-in-Some.all c.in_ok-all-in-Some.ensures.rising
    (λ n. c.in_ok-all-in-Some.ensures.members n ∙ (any_values (λ x. has_number n.0 (standing_at r x)) _ ∙ ap (list_any (λ x. has_number n.0 (standing_at r x))) at))
    ∙ ap (λ r. numbers_in r c.args.folder) c.self.view_is

pub returns-in-None : goal.returns-in-None
returns-in-None c =
    let r = c.self.inside.parts in
    let at = ap (λ m. map (λ e. e.1) (unwrap_or m [])) (ap option_copied (sym c.in-None.is)) ∙ c.entries.ensures in
    c.new.ensures
    ∙ children_are r c.self.invariant c.args.folder [] tt (λ n. ap (list_any (λ x. has_number n.0 (standing_at r x))) at)
    ∙ ap (λ r. numbers_in r c.args.folder) c.self.view_is
