use Rattle.std.proofs.Common.{◌≡◌, ◌||◌, take}
use Rattle.cm_base.specs.declared.number.Oid.{Oid}
use Rattle.cm_objects.specs.declared.index_key.IndexKey.{IndexKey}
use Rattle.cm_objects.specs.Pairs.{has_pair}
use Rattle.cm_objects.specs.Indexed.{is_pair_of}
use Rattle.cm_objects.proofs.pairs.with_pairs.Given as goal

abbrev pub invariant-loop-key : goal.invariant-loop-key
invariant-loop-key l = (p : IndexKey × Oid) → has_pair p l.all ≡ (has_pair p l.fn.index || is_pair_of l.n (take l.key-index l.keys) p)
