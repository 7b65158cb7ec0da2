use Rattle.std.proofs.Common.{map, ap, ◌∙◌}
use Rattle.cm_map.specs.Sets.{has_key, with_key, key_of}
use Rattle.cm_map.proofs.Keyed.{keys_put, keys_rise, has_with}
use Rattle.cm_map.proofs.set.Set.with.Goals as goal

pub returns-clause-keys : goal.returns-clause-keys
returns-clause-keys g c = ap (map key_of) c.in_ok-entries.ensures ∙ keys_put g.K.Ord.cmp g.met.K.Ord.total g.met.K.Key.exact c.args.key tt c.self.inside.entries (keys_rise g.K.Ord.cmp c.self.inside.entries c.len-count.ensures.sorted) ∙ ap (λ l. with_key g.K.Ord.cmp l c.args.key) c.self.view_is

pub returns-clause-has : goal.returns-clause-has
returns-clause-has g c q =
    ap (has_key g.K.Ord.cmp q) (returns-clause-keys g c) ∙ has_with g.K.Ord.cmp g.met.K.Ord.total q c.args.key c.args.self.now
