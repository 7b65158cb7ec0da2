use Rattle.std.proofs.Common.{map, ◌++◌, ◌∷◌, [], ap, ◌∙◌}
use Rattle.place_laws.proofs.Placing.{all_below, put_entry}
use Rattle.place_laws.proofs.Clearing.{below_put}
use Rattle.cm_folder.proofs.filing.Filing.with_entry.Goals as goal

pub invariant_of-result : goal.invariant_of-result
invariant_of-result c =
    let s = c.self.inside in
    record {
      below = below_put s.next c.args.entry s.parts.entries c.in_ok-parts.parts.entries c.self.invariant.below c.in_ok-parts.ensures.entries;
      indexed = c.in_ok-parts.ensures.indexed;
    }

pub returns : goal.returns
returns c =
    let s = c.self.inside in
    ap (map (λ e. e.1)) c.in_ok-parts.ensures.entries ∙ (put_entry s.next c.args.entry s.parts.entries (all_below s.next s.parts.entries c.self.invariant.below) ∙ ap (λ l. l ++ c.args.entry ∷ []) c.self.view_is)
