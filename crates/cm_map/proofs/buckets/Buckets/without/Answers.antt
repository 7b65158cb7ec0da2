use Rattle.std.proofs.Common.{◌∙◌, ap}
use Rattle.cm_map.specs.Buckets.{find_in, with_bucket}
use Rattle.cm_map.proofs.Nested.{find-without}
use Rattle.cm_map.proofs.buckets.Buckets.without.Goals as goal

pub returns-clause-bucket : goal.returns-clause-bucket
returns-clause-bucket g c = c.in_ok-maps.ensures ∙ ap (λ m. with_bucket g.K.Ord.cmp c.args.outer m c.args.self.now) c.in_ok-map.ensures

pub returns-clause-found : goal.returns-clause-found
returns-clause-found g c n k = ap (λ m. find_in g.K.Ord.cmp g.J.Ord.cmp m n k) (returns-clause-bucket g c) ∙ find-without g.K.Ord.cmp g.J.Ord.cmp g.met.K.Ord.total g.met.J.Ord.total _ c.args.outer c.args.inner.now n k
