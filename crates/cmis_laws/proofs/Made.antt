-- A write that makes an object keeps what is well formed: the object with its access list and policies, its place, the step and the event.
use Rattle.std.specs.Prelude.{◌≡◌, ℕ, ◌+◌, ◌≤◌, true, false, ◌⊎◌, List, [], All, Some, None, is_some, nat_le}
use Rattle.std.proofs.Common.{refl, inl, arith}
use Rattle.std.proofs.lemmas.Bool.{both_ways}
use Rattle.cm_base.specs.declared.number.Oid.{Oid}
use Rattle.cm_base.specs.declared.number.Moment.{Moment}
use Rattle.cm_base.specs.declared.object.Object.{Object}
use Rattle.cm_base.specs.declared.access.Ace.{Ace}
use Rattle.cm_base.specs.declared.log.ChangeKind.TheVariants as changes
use Rattle.cm_types.specs.declared.definition.BaseType.TheVariants as bases
use Rattle.cm_types.specs.Types.{props_of}
use Rattle.cmis_spec.specs.Repository.{Repository, most_levels, is_a, new_number, depth_of, is_taken}
use Rattle.cmis_spec.specs.Changes.{with_object, with_pair, stepped, noted}
use Rattle.cmis_spec.specs.Well.{IsBaseAt, IsTyped, IsKept, OwnsValues, HasEnds, IsAceList, IsWellFormed}
use Rattle.cmis_laws.proofs.Entries.{not_both}
use Rattle.cmis_laws.proofs.Added.{IsNewObject}
use Rattle.cmis_laws.proofs.Objects.{object_keeps}
use Rattle.cmis_laws.proofs.Placed.{IsNewPlace, placed_keeps}
use Rattle.cmis_laws.proofs.Steps.{HasRoom, step_keeps, note_keeps}

-- what an object that a write makes must be, by the repository before it
pub record IsMade (r : Repository) (cost : ℕ) (x : Object) (aces : List Ace) (policies : List Oid) : Type 0 where
  pub number : x.id ≡ new_number r
  pub alone : x.series ≡ None
  pub named : is_some x.name ≡ true
  pub no_document : is_a r bases.Document x ≡ false
  pub typed : IsTyped r.types x
  pub kept : IsKept r (props_of r.types x.kind x.secondary) x
  pub owned : OwnsValues r.types x
  pub ends : is_a r bases.Relationship x ≡ true → HasEnds r x
  pub token : x.token ≤ r.step + 1
  pub listed : IsAceList aces
  pub applied : All (IsBaseAt r bases.Policy) policies
  pub room : HasRoom r cost

new_object : (r : Repository) (cost : ℕ) (x : Object) (aces : List Ace) (policies : List Oid) → IsWellFormed r → IsMade r cost x aces policies → IsNewObject (stepped r cost) x aces policies
new_object r cost x aces policies w f = record {
  number = f.number;
  alone = f.alone;
  named = f.named;
  no_document = f.no_document;
  typed = f.typed;
  kept = f.kept;
  owned = f.owned;
  ends = f.ends;
  token = f.token;
  room = omega (arith, w.bounds.2);
  listed = f.listed;
  applied = f.applied;
}

-- an item, a policy or a relationship that is filed nowhere
pub made_keeps : (r : Repository) (cost : ℕ) (m : Moment) (x : Object) (aces : List Ace) (policies : List Oid) → IsWellFormed r → IsMade r cost x aces policies → is_a r bases.Folder x ≡ false
    → IsWellFormed (noted (stepped (with_object r x aces policies) cost) changes.Created x.id m [])
made_keeps r cost m x aces policies w f no_folder = note_keeps (with_object (stepped r cost) x aces policies) changes.Created x.id m []
    (object_keeps (stepped r cost) x aces policies (step_keeps r cost w f.room) (new_object r cost x aces policies w f) no_folder)

-- a folder or an item in a folder
pub made_in_keeps : (r : Repository) (cost : ℕ) (m : Moment) (folder : Oid) (x : Object) (aces : List Ace) (policies : List Oid) → IsWellFormed r → IsMade r cost x aces policies → IsNewPlace r folder x
    → (is_a r bases.Folder x ≡ true) ⊎ (is_a r bases.Item x ≡ true) → (is_a r bases.Folder x ≡ true → nat_le most_levels (depth_of r folder) ≡ false)
    → IsWellFormed (noted (stepped (with_pair (with_object r x aces policies) folder x.id) cost) changes.Created x.id m [])
made_in_keeps r cost m folder x aces policies w f p base depth = note_keeps (with_pair (with_object (stepped r cost) x aces policies) folder x.id) changes.Created x.id m []
    (placed_keeps (stepped r cost) x aces policies folder (step_keeps r cost w f.room) (new_object r cost x aces policies w f)
    (record { below = p.below; name = p.name; named = p.named; free = p.free }) base depth)

-- ---- createFolder

-- what is known once createFolder is not refused
pub record IsNewFolder (r : Repository) (cost : ℕ) (folder : Oid) (x : Object) (aces : List Ace) (policies : List Oid) : Type 0 where
  pub number : x.id ≡ new_number r
  pub alone : x.series ≡ None
  pub name : List ℕ
  pub named : x.name ≡ Some name
  pub base : is_a r bases.Folder x ≡ true
  pub typed : IsTyped r.types x
  pub kept : IsKept r (props_of r.types x.kind x.secondary) x
  pub owned : OwnsValues r.types x
  pub token : x.token ≤ r.step + 1
  pub listed : IsAceList aces
  pub applied : All (IsBaseAt r bases.Policy) policies
  pub below : IsBaseAt r bases.Folder folder
  pub depth : nat_le most_levels (depth_of r folder) ≡ false
  pub free : is_taken r folder x.id name ≡ false
  pub room : HasRoom r cost

pub folder_keeps : (r : Repository) (cost : ℕ) (m : Moment) (folder : Oid) (x : Object) (aces : List Ace) (policies : List Oid) → IsWellFormed r → IsNewFolder r cost folder x aces policies
    → IsWellFormed (noted (stepped (with_pair (with_object r x aces policies) folder x.id) cost) changes.Created x.id m [])
folder_keeps r cost m folder x aces policies w f = made_in_keeps r cost m folder x aces policies w
    (record {
      number = f.number;
      alone = f.alone;
      named = rw f.named refl;
      no_document = not_both r x bases.Folder bases.Document refl f.base;
      typed = f.typed;
      kept = f.kept;
      owned = f.owned;
      ends = λ e. absurd (both_ways (is_a r bases.Relationship x) (not_both r x bases.Folder bases.Relationship refl f.base) e);
      token = f.token;
      listed = f.listed;
      applied = f.applied;
      room = f.room;
    })
    (record { below = f.below; name = f.name; named = f.named; free = f.free }) (inl f.base) (λ _. f.depth)
