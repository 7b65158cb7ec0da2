use Rattle.std.proofs.Common.{◌++◌, ap, ◌∙◌}
use Rattle.std.specs.Prelude.{codes}
use Rattle.std.specs.List.{filter_map}
use Rattle.cm_types.specs.Properties.{value_in, scalars_of}
use Rattle.cm_objects.specs.Indexed.{scalar_key}
use Rattle.cm_objects.proofs.Ends.{ends_of_both}
use Rattle.cm_objects.proofs.keys.ends_of.Goals as goal

pub returns : goal.returns
returns c =
    c.in_ok-push_named-2.ensures
    ∙ ap (λ ks. ks ++ filter_map scalar_key (scalars_of (value_in c.args.x.now.values (codes "cmis:targetId"))))
    (c.in_ok-push_named.ensures ∙ ap (λ ks. ks ++ filter_map scalar_key (scalars_of (value_in c.args.x.now.values (codes "cmis:sourceId")))) c.new-keys.ensures)
    ∙ ends_of_both c.args.x.now
