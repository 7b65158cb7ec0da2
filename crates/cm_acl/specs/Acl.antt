-- Access control lists: what they permit, and how they change (CMIS 1.1, section 2.1.12; the order of entries is this project's own).
use Rattle.std.specs.Prelude.{ℕ, Bool, not, List, ◌∷◌, ◌++◌, filter, fold, Option, Some, None, bytes_eq, codes, if◌then◌else◌}
use Rattle.std.specs.List.{list_any}
use Rattle.core.specs.Ordering.{nat_cmp, ordering_then, is_lt, is_gt, is_eq}
use Rattle.core.specs.Cmp.Lexicographic.{slice_cmp}
use Rattle.core.specs.declared.cmp.Ordering.{Ordering}
use Rattle.cm_base.specs.declared.access.Ace.{Ace}
use Rattle.cm_base.specs.declared.access.Level.{Level}
use Rattle.cm_base.specs.declared.access.Level.TheVariants as levels
use Rattle.cmis_spec.specs.Access.{rank}

-- the three permissions (section 2.1.12.3.1)
abbrev pub level_named : List ℕ → Option Level
level_named text =
    if bytes_eq text (codes "cmis:read") then Some levels.Read
    else if bytes_eq text (codes "cmis:write") then Some levels.Write
    else if bytes_eq text (codes "cmis:all") then Some levels.All
    else None

-- by the principals' bytes, then by permission
abbrev pub ace_order : Ace → Ace → Ordering
ace_order a b = ordering_then (slice_cmp nat_cmp a.principal b.principal) (nat_cmp (rank a.level) (rank b.level))

abbrev pub same_ace : Ace → Ace → Bool
same_ace a b = is_eq (ace_order a b)

-- the list without these entries; one that isn't there changes nothing
abbrev pub without_aces : List Ace → List Ace → List Ace
without_aces remove aces = filter (λ a. not (list_any (same_ace a) remove)) aces

-- the list with this entry at its place, once
abbrev pub with_ace : List Ace → Ace → List Ace
with_ace aces a = filter (λ b. is_lt (ace_order b a)) aces ++ a ∷ filter (λ b. is_gt (ace_order b a)) aces

-- removals first, then additions
abbrev pub changed_aces : List Ace → List Ace → List Ace → List Ace
changed_aces aces remove add = fold with_ace (without_aces remove aces) add
