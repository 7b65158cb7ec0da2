-- Trees that are not shown, and trees that are.
use Rattle.std.specs.Prelude.{◌≡◌, ℕ, Bool, true, false, List, length, Ok, Some, map}
use Rattle.std.proofs.Common.{refl}
use Rattle.action_parts.specs.declared.action.Action.TheVariants as actions
use Rattle.include_parts.specs.declared.readings.ShowTree.{ShowTree}
use Rattle.include_parts.specs.declared.replies.IncludedTreeReply.{IncludedTreeReply}
use Rattle.cm_base.specs.declared.object.Object.{Object}
use Rattle.cm_base.specs.declared.cause.Cause.{Cause}
use Rattle.cm_base.specs.declared.cause.Cause.TheVariants as causes
use Rattle.cm_types.specs.declared.definition.BaseType.TheVariants as bases
use Rattle.cm_see.specs.Addressed.{addressed}
use Rattle.cmis_spec.specs.Repository.{Repository, is_a}
use Rattle.rd_lists.specs.Listed.{is_too_long}
use Rattle.rd_trees.specs.ReadTree.{all_below, answer_tree, answer_tree_of, included_row, tree_reply}
use Rattle.action_laws.specs.Refused.{IsBarred, IsRefused, MayDo, NoneComes}
use Rattle.action_laws.proofs.Judging.{at_object, kind_lines}
use Rattle.action_laws.proofs.Passing.{aside, found_at, is_by, kind_free, none_comes, stands_for}

module _ (r : Repository) (u : List ℕ) where
  pub descendants : (q : ShowTree) → IsBarred r u q.tree.place actions.GetDescendants → IsRefused (answer_tree r u q)
  descendants q b = at_object (addressed r u q.tree.place) b.object (answer_tree_of r u q) b.found
      (kind_lines causes.WrongKind (tree_reply r u q (all_below r u q.tree b.object.id)) (is_a r bases.Folder b.object) b.barred)

  pub folder_tree : (q : ShowTree) → IsBarred r u q.tree.place actions.GetFolderTree → IsRefused (answer_tree r u q)
  folder_tree q b = at_object (addressed r u q.tree.place) b.object (answer_tree_of r u q) b.found
      (kind_lines causes.WrongKind (tree_reply r u q (all_below r u q.tree b.object.id)) (is_a r bases.Folder b.object) b.barred)

  of_folder : (p : Cause → Bool) (q : ShowTree) (x : Object) → ((n : ℕ) → p (causes.TooMany n) ≡ false) → addressed r u q.tree.place ≡ Some x → is_a r bases.Folder x ≡ true
      → is_by p (answer_tree r u q) ≡ false
  of_folder p q x long there e =
      let ts = all_below r u q.tree x.id in
      let reply : IncludedTreeReply = record { rows = map (included_row r u q) ts } in
      found_at p causes.NotFound (addressed r u q.tree.place) x (answer_tree_of r u q) there
      (kind_free p causes.WrongKind (tree_reply r u q ts) (is_a r bases.Folder x) e
      (aside p (causes.TooMany (length ts)) (is_too_long (length ts)) (Ok reply) (long (length ts)) refl))

  pub descendants_allowed : (q : ShowTree) → MayDo r u q.tree.place actions.GetDescendants → NoneComes actions.GetDescendants (answer_tree r u q)
  descendants_allowed q b = none_comes actions.GetDescendants (answer_tree r u q) refl (of_folder (stands_for actions.GetDescendants) q b.object (λ n. refl) b.found b.allowed)

  pub folder_tree_allowed : (q : ShowTree) → MayDo r u q.tree.place actions.GetFolderTree → NoneComes actions.GetFolderTree (answer_tree r u q)
  folder_tree_allowed q b = none_comes actions.GetFolderTree (answer_tree r u q) refl (of_folder (stands_for actions.GetFolderTree) q b.object (λ n. refl) b.found b.allowed)
