-- The comparison decides whether two are the same people.
use Rattle.std.specs.Prelude.{◌≡◌, ℕ, List, bytes_eq}
use Rattle.std.specs.Bool.{Decides}
use lib.Pointwise.{pointwise}
use Rattle.std.proofs.Common.{refl, ap, ◌∙◌}
use Rattle.std.proofs.lemmas.Bool.Decides.{Decides-and, Decides-like}
use Rattle.std.proofs.lemmas.Slice.Eq.{bytes_eq-Decides, slice_eq-Decides}
use Rattle.cm_base.specs.declared.user.Group.{Group}
use Rattle.journal_people.specs.Told.{PeopleTold}
use Rattle.journal_people.specs.Meetings.{same_names, same_group, same_people}

names_compared : (names others : List (List ℕ)) → Decides (same_names names others) (names ≡ others)
names_compared names others = slice_eq-Decides bytes_eq-Decides names others (same_names names others) refl

one_group : (g h : Group) → (g.name ≡ h.name) × (g.members ≡ h.members) → g ≡ h
one_group g h same =
    let named : g ≡ record g { name = h.name } = ap (λ (n : List ℕ). record g { name = n }) same.0 in
    let joined : record g { name = h.name } ≡ h = ap (λ (ms : List (List ℕ)). record g { name = h.name; members = ms }) same.1 in
    named ∙ joined

group_compared : (g h : Group) → Decides (same_group g h) (g ≡ h)
group_compared g h =
    Decides-like (same_group g h) (one_group g h) (λ e. (ap (λ (x : Group). x.name) e, ap (λ (x : Group). x.members) e))
    (Decides-and (bytes_eq g.name h.name) (same_names g.members h.members) (bytes_eq-Decides g.name h.name) (names_compared g.members h.members))

groups_compared : (groups others : List Group) → Decides (pointwise same_group groups others) (groups ≡ others)
groups_compared groups others = slice_eq-Decides group_compared groups others (pointwise same_group groups others) refl

one_people : (p q : PeopleTold) → (p.names ≡ q.names) × (p.groups ≡ q.groups) → p ≡ q
one_people p q same =
    let named : p ≡ record p { names = q.names } = ap (λ (ns : List (List ℕ)). record p { names = ns }) same.0 in
    let joined : record p { names = q.names } ≡ q = ap (λ (gs : List Group). record p { names = q.names; groups = gs }) same.1 in
    named ∙ joined

pub compared : (p q : PeopleTold) → Decides (same_people p q) (p ≡ q)
compared p q =
    Decides-like (same_people p q) (one_people p q) (λ e. (ap (λ (x : PeopleTold). x.names) e, ap (λ (x : PeopleTold). x.groups) e))
    (Decides-and (same_names p.names q.names) (pointwise same_group p.groups q.groups) (names_compared p.names q.names) (groups_compared p.groups q.groups))
