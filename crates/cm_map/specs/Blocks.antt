-- What blocks hold.
use Rattle.std.specs.Prelude.{ℕ, ◌≤◌, List, map, length, Option}
use Rattle.std.specs.Arc.{arc_value}
use Rattle.core.specs.List.{AllByRecursion, flat_map}
use Rattle.cm_map.specs.Parts.{first_of}
use Rattle.cm_map.specs.Sizes.{full}
use Rattle.cm_map.specs.declared.blocks.Leaf.{Leaf}
use Rattle.cm_map.specs.declared.blocks.Group.{Group}
use Rattle.cm_map.specs.Rows.{Spaced, first_block}

module _ {K V : Type 0} where
  abbrev pub leaf_entries : Leaf K V → List (K × V)
  leaf_entries l = map arc_value l.entries.items

  abbrev pub leaf_count : Leaf K V → ℕ
  leaf_count l = length l.entries.items

  abbrev pub leaf_first : Leaf K V → Option K
  leaf_first l = first_of (leaf_entries l)

  abbrev pub IsLeaf : Leaf K V → Type 0
  IsLeaf l = (1 ≤ leaf_count l) × (leaf_count l ≤ full)

-- ---- blocks of blocks, by what their members hold

abbrev pub group_entries : {K V B : Type 0} → (B → List (K × V)) → Group B → List (K × V)
group_entries entries g = flat_map entries (map arc_value g.members.items)

abbrev pub group_count : {B : Type 0} → Group B → ℕ
group_count g = length g.members.items

abbrev pub group_first : {K B : Type 0} → (B → Option K) → Group B → Option K
group_first first g = first_block first (map arc_value g.members.items)

abbrev pub IsGroup : {B : Type 0} → (B → Type 0) → (B → ℕ) → Group B → Type 0
IsGroup Whole count g = (1 ≤ group_count g) × (group_count g ≤ full) × AllByRecursion Whole (map arc_value g.members.items) × Spaced (map count (map arc_value g.members.items))

-- ---- the three levels above leaves

module _ {K V : Type 0} where
  abbrev pub middle_entries : Group (Leaf K V) → List (K × V)
  middle_entries m = group_entries leaf_entries m

  abbrev pub IsMiddle : Group (Leaf K V) → Type 0
  IsMiddle m = IsGroup IsLeaf leaf_count m

  abbrev pub branch_entries : Group (Group (Leaf K V)) → List (K × V)
  branch_entries b = group_entries middle_entries b

  abbrev pub IsBranch : Group (Group (Leaf K V)) → Type 0
  IsBranch b = IsGroup IsMiddle group_count b

  abbrev pub limb_entries : Group (Group (Group (Leaf K V))) → List (K × V)
  limb_entries l = group_entries branch_entries l

  abbrev pub IsLimb : Group (Group (Group (Leaf K V))) → Type 0
  IsLimb l = IsGroup IsBranch group_count l
