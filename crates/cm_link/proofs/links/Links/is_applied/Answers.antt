use Rattle.std.proofs.Common.{◌&&◌, option_copied, sym, ap, ◌∙◌}
use Rattle.std.specs.List.{list_any}
use Rattle.cmis_spec.specs.Repository.{same}
use Rattle.cm_link.proofs.Linking.{policies_at, applied_same}
use Rattle.cm_link.proofs.links.Links.is_applied.Goals as goal

pub returns-in-Some : goal.returns-in-Some
returns-in-Some c =
    let s = c.self.inside.pairs in
    c.has_policy.ensures.value
    ∙ (ap (list_any (λ e. same e.1 c.args.policy)) (policies_at s.entries s.by_object s.by_policy c.self.invariant.indexed c.args.object _ (ap option_copied (sym c.in-Some.is) ∙ c.bucket.ensures) c.has_policy.ensures.sorted)
    ∙ (applied_same c.args.policy c.args.object s.entries ∙ ap (list_any (λ a. same a.policy c.args.policy && same a.object c.args.object)) c.self.view_is))

pub returns-in-None : goal.returns-in-None
returns-in-None c =
    let s = c.self.inside.pairs in
    ap (list_any (λ e. same e.1 c.args.policy)) (policies_at s.entries s.by_object s.by_policy c.self.invariant.indexed c.args.object _ (ap option_copied (sym c.in-None.is) ∙ c.bucket.ensures) tt)
    ∙ (applied_same c.args.policy c.args.object s.entries ∙ ap (list_any (λ a. same a.policy c.args.policy && same a.object c.args.object)) c.self.view_is)
