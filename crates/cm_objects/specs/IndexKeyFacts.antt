-- Only equal keys tie.
use Rattle.std.proofs.Common.{◌≡◌, ap, sym, true≢false, is_eq, Equal}
use Rattle.std.proofs.lemmas.Map.Lookups.{exact_bytes}
use Rattle.cm_map.specs.KeyFacts.{oid_exact}
use Rattle.cm_objects.specs.declared.index_key.IndexKey.{IndexKey}
use Rattle.cm_objects.specs.declared.index_key.IndexKey.TheVariants as keys
use Rattle.cm_objects.specs.contracts.index_key.IndexKeyOrd.TheImpl.{ghosts}

pub index_exact : (x y : IndexKey) → ghosts.cmp x y ≡ Equal → x ≡ y
index_exact (keys.Kind a) (keys.Kind b) e = ap keys.Kind (exact_bytes a b e)
index_exact (keys.Kind a) (keys.End o) e = absurd (true≢false (sym (ap is_eq e)))
index_exact (keys.End o) (keys.Kind b) e = absurd (true≢false (sym (ap is_eq e)))
index_exact (keys.End o) (keys.End p) e = ap keys.End (oid_exact o p e)
