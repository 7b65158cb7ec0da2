use Rattle.std.proofs.Common.{map, filter, option_copied, sym, ap, ◌∙◌}
use Rattle.cmis_spec.specs.Repository.{same}
use Rattle.cm_link.proofs.Linking.{policies_at, policies_same}
use Rattle.cm_link.proofs.links.Links.of_object.Goals as goal

pub returns-in_ok-all-in-Some : goal.returns-in_ok-all-in-Some
returns-in_ok-all-in-Some c =
    let s = c.self.inside.pairs in
    c.in_ok-all-in-Some.ensures.value
    ∙ (ap (map (λ e. e.1)) (policies_at s.entries s.by_object s.by_policy c.self.invariant.indexed c.args.object _ (ap option_copied (sym c.in-Some.is) ∙ c.bucket.ensures) c.in_ok-all-in-Some.ensures.sorted)
    ∙ (policies_same c.args.object s.entries ∙ ap (λ l. map (λ a. a.policy) (filter (λ a. same a.object c.args.object) l)) c.self.view_is))

pub returns-in-None : goal.returns-in-None
returns-in-None c =
    let s = c.self.inside.pairs in
    c.new.ensures
    ∙ (ap (map (λ e. e.1)) (policies_at s.entries s.by_object s.by_policy c.self.invariant.indexed c.args.object _ (ap option_copied (sym c.in-None.is) ∙ c.bucket.ensures) tt)
    ∙ (policies_same c.args.object s.entries ∙ ap (λ l. map (λ a. a.policy) (filter (λ a. same a.object c.args.object) l)) c.self.view_is))
