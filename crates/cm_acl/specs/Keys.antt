-- Access control entries as keys of sets: the principal, then the permission.
use Rattle.std.specs.Prelude.{ℕ, List, if◌then◌else◌}
use Rattle.cm_map.specs.Sets.{has_key, with_key}
use Rattle.core.specs.Ordering.{nat_cmp, ordering_then}
use Rattle.core.specs.Cmp.Lexicographic.{slice_cmp}
use Rattle.core.specs.declared.cmp.Ordering.{Ordering}
use Rattle.cm_base.specs.declared.access.Ace.{Ace}
use Rattle.cm_base.specs.declared.access.Level.{Level}
use Rattle.cm_base.specs.contracts.access.LevelOrd.TheImpl.{ghosts}

abbrev pub ace_key : Ace → List ℕ × Level
ace_key a = (a.principal, a.level)

abbrev pub ace_of_key : List ℕ × Level → Ace
ace_of_key k = record { principal = k.0; level = k.1 }

abbrev pub key_order : List ℕ × Level → List ℕ × Level → Ordering
key_order x y = ordering_then (slice_cmp nat_cmp x.0 y.0) (ghosts.cmp x.1 y.1)

-- the keys with that of an entry, if it isn't among the removed ones
abbrev pub kept_with : List (List ℕ × Level) → List (List ℕ × Level) → Ace → List (List ℕ × Level)
kept_with removed keys a = if has_key key_order (ace_key a) removed then keys else with_key key_order keys (ace_key a)
