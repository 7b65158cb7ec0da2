use Rattle.std.proofs.Common.{is_some, sym, ap, ◌∙◌}
use Rattle.cm_map.specs.Sets.{has_key}
use Rattle.core.specs.FinMap.Entries.{is_some-find}
use Rattle.cm_map.proofs.Rowing.{is_some-copied}
use Rattle.cm_map.proofs.set.Set.has.Goals as goal

pub returns : goal.returns
returns g c =
    c.is_some.ensures ∙ sym (is_some-copied c.get.result) ∙ ap is_some c.get.ensures
    ∙ is_some-find g.K.Ord.cmp c.args.key.now c.self.inside.entries ∙ ap (has_key g.K.Ord.cmp c.args.key.now) c.self.view_is
