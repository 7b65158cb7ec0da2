-- Where the deletions of a log stand.
use Rattle.std.specs.Prelude.{◌≡◌, ℕ, suc, Bool, ◌&&◌, List, [], ◌∷◌, Option, Some, None, is_none, option_map, if◌then◌else◌}
use Rattle.core.specs.FinMap.Entries.{find}
use Rattle.core.specs.Ordering.{nat_cmp}
use Rattle.cm_base.specs.declared.number.Oid.{Oid}
use Rattle.cm_base.specs.declared.log.Change.{Change}
use Rattle.cmis_spec.specs.Seen.{is_deletion, is_deletion_of}

-- the place of the first deletion of the object, counted from 0
abbrev pub deletion_place : Oid → List Change → Option ℕ
deletion_place n [] = None
deletion_place n (c ∷ cs) = if is_deletion_of n c then Some 0 else option_map suc (deletion_place n cs)

-- the event behind these is the first deletion of its object
abbrev pub is_first_deletion : List Change → Change → Bool
is_first_deletion events c = is_deletion c.kind && is_none (deletion_place c.object events)

-- under the number of each object that was deleted stands the place of its first deletion
abbrev pub AreDeletions : List (ℕ × ℕ) → List Change → Type 0
AreDeletions places events = (n : Oid) → find nat_cmp n.0 places ≡ deletion_place n events
