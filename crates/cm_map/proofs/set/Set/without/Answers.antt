use Rattle.std.proofs.Common.{map, ap, ◌∙◌}
use Rattle.cm_map.specs.Sets.{has_key, all_but_key, key_of}
use Rattle.cm_map.proofs.Keyed.{keys_where, has_without}
use Rattle.cm_map.proofs.set.Set.without.Goals as goal

pub returns-clause-keys : goal.returns-clause-keys
returns-clause-keys g c = ap (map key_of) c.in_ok-entries.ensures ∙ keys_where g.K.Ord.cmp _ c.self.inside.entries ∙ ap (all_but_key g.K.Ord.cmp c.args.key.now) c.self.view_is

pub returns-clause-has : goal.returns-clause-has
returns-clause-has g c q = ap (has_key g.K.Ord.cmp q) (returns-clause-keys g c) ∙ has_without g.K.Ord.cmp g.met.K.Ord.total q c.args.key.now c.args.self.now
