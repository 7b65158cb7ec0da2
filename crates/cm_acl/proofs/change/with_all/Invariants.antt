use Rattle.std.proofs.Common.{◌≡◌, ◌||◌, ℕ, List, map, take, fold}
use Rattle.core.specs.Ordering.{eq_by_cmp}
use Rattle.cm_base.specs.declared.access.Level.{Level}
use Rattle.cm_map.specs.Sets.{has_key, with_key}
use Rattle.cm_acl.specs.Keys.{ace_key, key_order}
use Rattle.cm_acl.proofs.change.with_all.Given as goal

abbrev pub invariant-loop-ace : goal.invariant-loop-ace
invariant-loop-ace l = record {
  keys : l.set ≡ fold (with_key key_order) l.initial.set (map ace_key (take l.ace-index l.aces));
  has : (q : List ℕ × Level) → has_key key_order q l.set ≡ fold (λ b k. eq_by_cmp key_order q k || b) (has_key key_order q l.initial.set) (map ace_key (take l.ace-index l.aces));
}
