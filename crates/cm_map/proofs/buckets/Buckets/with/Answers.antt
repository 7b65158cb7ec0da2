use Rattle.std.proofs.Common.{◌∙◌, ap}
use Rattle.core.specs.FinMap.Entries.{put}
use Rattle.cm_map.specs.Buckets.{find_in}
use Rattle.cm_map.proofs.Nested.{find-with}
use Rattle.cm_map.proofs.buckets.Buckets.with.Goals as goal

pub returns-clause-bucket : goal.returns-clause-bucket
returns-clause-bucket g c = c.in_ok-maps.ensures ∙ (λ i. put g.K.Ord.cmp c.args.outer (c.in_ok-map.ensures i) (c.self.view_is i))

pub returns-clause-found : goal.returns-clause-found
returns-clause-found g c n k = ap (λ m. find_in g.K.Ord.cmp g.J.Ord.cmp m n k) (returns-clause-bucket g c) ∙ find-with g.K.Ord.cmp g.J.Ord.cmp g.met.K.Ord.total g.met.J.Ord.total _ c.args.outer c.args.inner c.args.value n k
