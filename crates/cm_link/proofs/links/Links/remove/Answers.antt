use Rattle.std.proofs.Common.{◌&&◌, not, filter, ap, ◌∙◌}
use Rattle.core.specs.Ordering.{nat_cmp}
use Rattle.core.specs.FinMap.Entries.{find}
use Rattle.cmis_spec.specs.Repository.{same}
use Rattle.place_laws.proofs.Clearing.{list_left, below_left}
use Rattle.cm_link.proofs.links.Links.remove.Goals as goal

pub invariant_of-result : goal.invariant_of-result
invariant_of-result c =
    let s = c.self.inside in
    record {
      below = below_left (λ a. same a.policy c.args.policy && same a.object c.args.object) s.next (λ p. find nat_cmp p s.pairs.entries) (λ p. find nat_cmp p c.in_ok-pairs.pairs.entries) c.self.invariant.below c.in_ok-pairs.ensures.found;
      indexed = c.in_ok-pairs.ensures.indexed;
    }

pub returns : goal.returns
returns c =
    list_left (λ a. same a.policy c.args.policy && same a.object c.args.object) c.self.inside.pairs.entries c.in_ok-pairs.pairs.entries c.self.invariant.indexed.sorted c.in_ok-pairs.ensures.indexed.sorted c.in_ok-pairs.ensures.found
    ∙ ap (filter (λ a. not (same a.policy c.args.policy && same a.object c.args.object))) c.self.view_is
