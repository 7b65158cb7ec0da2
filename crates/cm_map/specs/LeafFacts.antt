-- The first key of a block.
use Rattle.std.proofs.Common.{◌≡◌, ℕ, ◌≤◌, List, [], ◌∷◌, map, length, refl, Option, IsSome, sym, subst, ◌∙◌, arith, ◌++◌, true≢false}
use Rattle.std.specs.Arc.{arc_value}
use Rattle.std_alloc.specs.declared.arc.Arc.{Arc}
use Rattle.cm_map.specs.Parts.{first_of}
use Rattle.cm_map.specs.Sizes.{full}
use Rattle.cm_map.specs.declared.blocks.Leaf.{Leaf}
use Rattle.cm_map.specs.declared.blocks.Group.{Group}
use Rattle.core.specs.List.{AllByRecursion, flat_map}
use Rattle.cm_map.specs.Rows.{first_block}
use Rattle.cm_map.specs.Blocks.{leaf_entries, leaf_count, leaf_first, IsLeaf, group_entries, group_count, group_first, IsGroup}

some_first : {K V Z : Type 0} (xs : List (Arc (K × V) Z)) → 1 ≤ length xs → IsSome (first_of (map arc_value xs))
some_first [] h = absurd (omega (arith, h))
some_first (x ∷ xs) h = refl

pub leaf_heads : {K V : Type 0} (b : Leaf K V) → IsLeaf b → (leaf_first b ≡ first_of (leaf_entries b)) × IsSome (leaf_first b) × (1 ≤ leaf_count b) × (leaf_count b ≤ full)
leaf_heads b w = (refl, some_first b.entries.items w.0, w.0, w.1)

head_of_more : {K V : Type 0} (es fs : List (K × V)) → IsSome (first_of es) → first_of es ≡ first_of (es ++ fs)
head_of_more [] fs h = absurd (true≢false (sym h))
head_of_more (e ∷ es) fs h = refl

module _ {K V B : Type 0} (first : B → Option K) (entries : B → List (K × V)) (Whole : B → Type 0) (count : B → ℕ)
    (heads : (b : B) → Whole b → (first b ≡ first_of (entries b)) × IsSome (first b) × (1 ≤ count b) × (count b ≤ full)) where
  heads_of : {Z : Type 0} (xs : List (Arc B Z)) → 1 ≤ length xs → AllByRecursion Whole (map arc_value xs)
      → (first_block first (map arc_value xs) ≡ first_of (flat_map entries (map arc_value xs))) × IsSome (first_block first (map arc_value xs))
  heads_of [] h w = absurd (omega (arith, h))
  heads_of (x ∷ xs) h w =
      let f = heads (arc_value x) w.0 in
      (f.0 ∙ head_of_more (entries (arc_value x)) (flat_map entries (map arc_value xs)) (subst IsSome f.0 f.1), f.1)

  pub group_heads : (g : Group B) → IsGroup Whole count g → (group_first first g ≡ first_of (group_entries entries g)) × IsSome (group_first first g) × (1 ≤ group_count g) × (group_count g ≤ full)
  group_heads g w = let h = heads_of g.members.items w.0 w.2 in (h.0, h.1, w.0, w.1)
