use Rattle.std.proofs.Common.{◌==◌, cond, None, option_copied, sym, ap, ◌∙◌}
use Rattle.std.specs.List.{list_any}
use Rattle.core.specs.Ordering.{nat_cmp}
use Rattle.core.specs.FinMap.Entries.{find}
use Rattle.cm_link.specs.declared.pairs.Pairs.{Pairs}
use Rattle.cm_link.proofs.Linking.{policy_left}
use Rattle.cm_link.proofs.pairs.Pairs.without_policy.Goals as goal

pub returns-in_ok-pairs-in-Some-clause-found : goal.returns-in_ok-pairs-in-Some-clause-found
returns-in_ok-pairs-in-Some-clause-found c =
    let s = c.args.self.now in
    policy_left c.args.policy c.args.object s.entries c.in_ok-pairs-in-Some.pairs.entries s.by_object s.by_policy c.requires.indexed _ (ap option_copied (sym c.in-Some.is) ∙ c.bucket.ensures) c.in_ok-places-in-Some.ensures.sorted
    (λ p. c.in_ok-pairs-in-Some.ensures.found p ∙ ap (λ l. cond (list_any (λ q. p == q) l) None (find nat_cmp p s.entries)) (c.deref.ensures.value ∙ c.in_ok-places-in-Some.ensures.value))

pub returns-in_ok-pairs-in-None-clause-found : goal.returns-in_ok-pairs-in-None-clause-found
returns-in_ok-pairs-in-None-clause-found c =
    let s = c.args.self.now in
    policy_left c.args.policy c.args.object s.entries c.in_ok-pairs-in-None.pairs.entries s.by_object s.by_policy c.requires.indexed _ (ap option_copied (sym c.in-None.is) ∙ c.bucket.ensures) tt
    (λ p. ap (λ (t : Pairs). find nat_cmp p t.entries) c.in_ok-pairs-in-None.ensures)
