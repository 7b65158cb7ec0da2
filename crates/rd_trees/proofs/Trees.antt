-- The tree below a folder that is seen alike in two repositories is the same.
use Rattle.std.specs.Prelude.{◌≡◌, ℕ, zero, suc, ◌+◌, Bool, ◌||◌, not, List, [], ◌∷◌, ◌++◌, length, filter, All, Ok}
use Rattle.std.proofs.Common.{refl, sym, ap, ◌∙◌}
use Rattle.std.proofs.lemmas.List.Elements.{All-nil, All-cons, All-head, All-tail, All-append, All-filter, All-weaker}
use Rattle.cm_base.specs.declared.object.Object.{Object}
use Rattle.cm_base.specs.declared.cause.Cause.TheVariants as causes
use Rattle.cm_base.specs.Judged.{◌>>◌, refuse}
use Rattle.cm_types.specs.declared.definition.BaseType.TheVariants as bases
use Rattle.cm_types.specs.Types.{is_of_base}
use Rattle.include_parts.specs.declared.readings.ShowTree.{ShowTree}
use Rattle.cmis_spec.specs.Repository.{Repository, is_a}
use Rattle.cmis_spec.specs.Access.{children_of}
use Rattle.cm_include.proofs.Alike.{included_alike}
use Rattle.cm_see.proofs.SeenLists.{map_same}
use Rattle.cm_see.proofs.Worlds.{AreAlike, AreFound, IsAlike, children_alike}
use Rattle.rd_lists.specs.Listed.{is_too_long}
use Rattle.rd_lists.proofs.Seen.{segment_alike}
use Rattle.rd_trees.specs.ReadTree.{Placed, all_below, answer_tree_of, included_node, included_row, is_in_tree, placed, right_below, tree_levels, tree_reply}

module _ (r other : Repository) (u : List ℕ) (a : AreAlike r other u) where
  in_tree_alike : (only : Bool) (xs ys : List Object) → AreFound r other u xs ys → AreFound r other u (filter (is_in_tree r only) xs) (filter (is_in_tree other only) ys)
  in_tree_alike only xs ys found = record {
    same = ap (λ ts. filter (λ x. not only || is_of_base ts bases.Folder x.kind) xs) (sym (ap (λ s. s.types) a.alike)) ∙ ap (filter (is_in_tree other only)) found.same;
    each = All-filter (is_in_tree r only) (IsAlike r other u) xs found.each;
  }

  below_alike : (only : Bool) (f : Object) → IsAlike r other u f → AreFound r other u (right_below r u only f.id) (right_below other u only f.id)
  below_alike only f h = in_tree_alike only (children_of r u f.id) (children_of other u f.id) (children_alike r other u f a h)

  -- an object of the tree is seen alike
  abbrev IsPlacedAlike : Placed → Type 0
  IsPlacedAlike t = IsAlike r other u t.1

  -- so are all of it
  abbrev ArePlacedAlike : Bool → ℕ → ℕ → List Object → Type 0
  ArePlacedAlike only n level xs = (placed n r u only level xs ≡ placed n other u only level xs) × All IsPlacedAlike (placed n r u only level xs)

  level_alike : (only : Bool) (n level : ℕ) → ((ys : List Object) → All (IsAlike r other u) ys → ArePlacedAlike only n (level + 1) ys)
      → (xs : List Object) → All (IsAlike r other u) xs → ArePlacedAlike only (suc n) level xs
  level_alike only n level deep [] h = (refl, All-nil IsPlacedAlike)
  level_alike only n level deep (x ∷ xs) h =
      let here = All-head (IsAlike r other u) x xs h in
      let below = below_alike only x here in
      let deeper = deep (right_below r u only x.id) below.each in
      let rest = level_alike only n level deep xs (All-tail (IsAlike r other u) x xs h) in
      let one : placed n r u only (level + 1) (right_below r u only x.id) ≡ placed n other u only (level + 1) (right_below other u only x.id) =
      deeper.0 ∙ ap (placed n other u only (level + 1)) below.same in (
        (λ i. (level, x) ∷ one i ++ rest.0 i),
        All-cons IsPlacedAlike (level, x) (placed n r u only (level + 1) (right_below r u only x.id) ++ placed (suc n) r u only level xs) here
            (All-append IsPlacedAlike (placed n r u only (level + 1) (right_below r u only x.id)) (placed (suc n) r u only level xs) deeper.1 rest.1),
      )

  placed_alike : (only : Bool) (n level : ℕ) (xs : List Object) → All (IsAlike r other u) xs → ArePlacedAlike only n level xs
  placed_alike only zero level xs h = (refl, All-nil IsPlacedAlike)
  placed_alike only (suc n) level xs h = level_alike only n level (λ ys k. placed_alike only n (level + 1) ys k) xs h

  node_alike : (q : ShowTree) (x : Object) → IsAlike r other u x → included_node r u q x ≡ included_node other u q x
  node_alike q x h =
      let object = included_alike r other u a x h q.tree.filter q.tree.succinct q.includes in
      let segment = segment_alike r other u a x h q.tree.segments in
      (λ i. record { object = object i; segment = segment i })

  row_alike : (q : ShowTree) (t : Placed) → IsPlacedAlike t → included_row r u q t ≡ included_row other u q t
  row_alike q t h = ap (λ m. record { level = t.0; member = m }) (node_alike q t.1 h)

  reply_alike : (q : ShowTree) (ts : List Placed) → All IsPlacedAlike ts → tree_reply r u q ts ≡ tree_reply other u q ts
  reply_alike q ts h =
      ap (λ rows. refuse (causes.TooMany (length ts)) (is_too_long (length ts)) >> Ok (record { rows = rows }))
      (map_same (included_row r u q) (included_row other u q) ts (All-weaker IsPlacedAlike (λ t. included_row r u q t ≡ included_row other u q t) (row_alike q) ts h))

  tree_alike : (q : ShowTree) (x : Object) → IsAlike r other u x → tree_reply r u q (all_below r u q.tree x.id) ≡ tree_reply other u q (all_below other u q.tree x.id)
  tree_alike q x h =
      let below = below_alike q.tree.folders_only x h in
      let all = placed_alike q.tree.folders_only (tree_levels q.tree.depth) 0 (right_below r u q.tree.folders_only x.id) below.each in
      reply_alike q (all_below r u q.tree x.id) all.1
      ∙ ap (tree_reply other u q) (all.0 ∙ ap (placed (tree_levels q.tree.depth) other u q.tree.folders_only 0) below.same)

  pub tree_of_alike : (q : ShowTree) (x : Object) → IsAlike r other u x → answer_tree_of r u q x ≡ answer_tree_of other u q x
  tree_of_alike q x h =
      ap (λ ts. refuse causes.WrongKind (not (is_of_base ts bases.Folder x.kind)) >> tree_reply r u q (all_below r u q.tree x.id)) (sym (ap (λ s. s.types) a.alike))
      ∙ ap (λ y. refuse causes.WrongKind (not (is_a other bases.Folder x)) >> y) (tree_alike q x h)
