use Rattle.std.proofs.Common.{◌++◌, ◌∷◌, [], ap, ◌∙◌}
use Rattle.std.specs.List.{filter_map}
use Rattle.cm_objects.specs.Indexed.{scalar_key}
use Rattle.cm_objects.proofs.Ends.{one_more}
use Rattle.cm_objects.proofs.keys.push_scalars.Goals as goal

pub loop-scalar-preserved : goal.loop-scalar-preserved
loop-scalar-preserved c =
    let s = c.scalar-item.result in
    c.in_ok-push_key.ensures
    ∙ ap (λ ks. ks ++ filter_map scalar_key (s ∷ [])) c.loop-scalar.invariant
    ∙ one_more c.args.scalars.now c.loop-scalar.scalar-index s c.loop-scalar-test.true c.scalar-item.is c.args.keys.now
