use Rattle.std.proofs.Common.{rules, ◌≡◌, ◌<◌, ◌&&◌, not, length, get_or, ◌∙◌}
use Rattle.cm_objects.specs.Pairs.{has_pair, same_pair}
use Rattle.cm_objects.proofs.Indexing.{pair_less}
use Rattle.cm_objects.proofs.pairs.without_pairs.Goals as goal

pub loop-key-preserved : goal.loop-key-preserved
loop-key-preserved c p =
    let i = c.loop-key.key-index in
    let keys = c.args.keys.now in
    let key = c.in_ok-copied.field-0 in
    let within : i < length keys = search rules in
    let at : key ≡ get_or keys i key = search rules in
    c.in_ok-all.ensures.has p ∙ (λ j. c.loop-key.invariant p j && not (same_pair p (key, c.args.n)))
    ∙ pair_less c.args.n keys i key p (has_pair p c.args.index) within at
