use Rattle.std.proofs.Common.{◌≡◌, ap, sym, ◌∙◌, rules}
use Rattle.std.specs.Prelude.{unwrap_or, Some, None}
use Rattle.std.specs.BTreeMap.{get_by_text}
use Rattle.cm_state.specs.Members.{names_of}
use Rattle.cm_state.proofs.people.People.groups_of.Goals as goal

pub returns-in-Some : goal.returns-in-Some
returns-in-Some c =
    let had : get_by_text c.self.inside.by_member c.args.user.now ≡ Some c.in-Some.names.now = search rules in
    sym (ap (λ o. unwrap_or o c.self.inside.no_groups) had) ∙ (c.self.invariant c.args.user.now ∙ ap (λ p. names_of p.groups c.args.user.now) c.self.view_is)

pub returns-in-None : goal.returns-in-None
returns-in-None c =
    let had : get_by_text c.self.inside.by_member c.args.user.now ≡ None = search rules in
    sym (ap (λ o. unwrap_or o c.self.inside.no_groups) had) ∙ (c.self.invariant c.args.user.now ∙ ap (λ p. names_of p.groups c.args.user.now) c.self.view_is)
