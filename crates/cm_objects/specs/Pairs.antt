-- Pairs of a key and the number of an object.
use Rattle.std.specs.Prelude.{◌<◌, ◌==◌, Bool, false, ◌&&◌, List, map, filter, bytes_eq}
use Rattle.std.specs.List.{list_any}
use Rattle.core.specs.List.{AllByRecursion}
use Rattle.core.specs.Ordering.{nat_cmp, ordering_then}
use Rattle.core.specs.declared.cmp.Ordering.{Ordering}
use Rattle.cm_base.specs.declared.number.Oid.{Oid}
use Rattle.cm_objects.specs.declared.index_key.IndexKey.{IndexKey}
use Rattle.cm_objects.specs.declared.index_key.IndexKey.TheVariants as keys
use Rattle.cm_objects.specs.contracts.index_key.IndexKeyOrd.TheImpl.{ghosts}

abbrev pub same_key : IndexKey → IndexKey → Bool
same_key (keys.Kind s) (keys.Kind t) = bytes_eq s t
same_key (keys.End x) (keys.End y) = x.0 == y.0
same_key _ _ = false

abbrev pub same_pair : IndexKey × Oid → IndexKey × Oid → Bool
same_pair p q = same_key p.0 q.0 && p.1.0 == q.1.0

abbrev pub has_pair : IndexKey × Oid → List (IndexKey × Oid) → Bool
has_pair p pairs = list_any (same_pair p) pairs

-- the numbers beside a key
abbrev pub ids_of : IndexKey → List (IndexKey × Oid) → List Oid
ids_of key pairs = map (λ p. p.1) (filter (λ p. same_key p.0 key) pairs)

-- by their keys, then by their numbers
abbrev pub pair_order : IndexKey × Oid → IndexKey × Oid → Ordering
pair_order p q = ordering_then (ghosts.cmp p.0 q.0) (nat_cmp p.1.0 q.1.0)

-- each number has at most 64 bits
abbrev pub AreNumbers : List (IndexKey × Oid) → Type 0
AreNumbers pairs = AllByRecursion (λ p. p.1.0 < 18446744073709551616) pairs
