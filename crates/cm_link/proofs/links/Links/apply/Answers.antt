use Rattle.std.proofs.Common.{map, ◌++◌, ◌∷◌, [], ap, ◌∙◌}
use Rattle.place_laws.proofs.Placing.{all_below, put_entry}
use Rattle.place_laws.proofs.Clearing.{below_put}
use Rattle.cm_link.proofs.links.Links.apply.Goals as goal

pub invariant_of-result : goal.invariant_of-result
invariant_of-result c =
    let s = c.self.inside in
    record {
      below = below_put s.next (record { policy = c.args.policy; object = c.args.object }) s.pairs.entries c.in_ok-pairs.pairs.entries c.self.invariant.below c.in_ok-pairs.ensures.entries;
      indexed = c.in_ok-pairs.ensures.indexed;
    }

pub returns : goal.returns
returns c =
    let s = c.self.inside in
    ap (map (λ e. e.1)) c.in_ok-pairs.ensures.entries ∙ (put_entry s.next (record { policy = c.args.policy; object = c.args.object }) s.pairs.entries (all_below s.next s.pairs.entries c.self.invariant.below)
    ∙ ap (λ l. l ++ record { policy = c.args.policy; object = c.args.object } ∷ []) c.self.view_is)
