use Rattle.std.proofs.Common.{◌≡◌, ◌++◌, ◌∷◌, [], ℕ, List, take}
use Rattle.std.specs.Prelude.{bytes_eq, if◌then◌else◌}
use Rattle.std.specs.List.{list_any}
use Rattle.cm_state.specs.Members.{names_at}
use Rattle.cm_state.proofs.people.note_group.Given as goal

abbrev pub invariant-loop-member : goal.invariant-loop-member
invariant-loop-member l = (u : List ℕ) → names_at l.by_member u
    ≡ names_at l.initial.by_member u ++ (if list_any (bytes_eq u) (take l.member-index l.member-items) then l.group.name ∷ [] else [])
