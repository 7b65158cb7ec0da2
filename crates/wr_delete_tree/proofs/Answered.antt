-- What a refusal that is none tells, and what is then answered.
use Rattle.std.specs.Prelude.{◌≡◌, ℕ, List, [], Some, Ok, unwrap_or, option_map}
use Rattle.std.proofs.Common.{sym, ap}
use Rattle.cm_base.specs.declared.number.Moment.{Moment}
use Rattle.cm_base.specs.declared.object.Object.{Object}
use Rattle.cm_see.specs.Addressed.{addressed}
use Rattle.cmis_spec.specs.Repository.{Repository}
use Rattle.cmis_laws.proofs.Passed.{then_ok}
use Rattle.cmis_laws.proofs.Steps.{HasRoom}
use Rattle.wr_rules.specs.Rules.{judge_storage}
use Rattle.wr_rules.proofs.Room.{room_of}
use Rattle.delete_tree_parts.specs.declared.writes.DeleteTree.{DeleteTree}
use Rattle.wr_delete_tree.specs.DeleteTree.{refusal_delete_tree, after_delete_tree_of, after_delete_tree, acknowledgement_delete_tree_of, acknowledgement_delete_tree}

pub room_for : (r : Repository) (u : List ℕ) (cost : ℕ) (call : DeleteTree) → refusal_delete_tree r u cost call ≡ Ok tt → HasRoom r cost
room_for r u cost call h = room_of r cost (then_ok (judge_storage r cost) _ h).0

-- with the object that is addressed
pub after_is : (r : Repository) (u : List ℕ) (m : Moment) (cost : ℕ) (call : DeleteTree) (x : Object) → addressed r u call.place ≡ Some x
    → after_delete_tree_of r u m cost call x ≡ after_delete_tree r u m cost call
after_is r u m cost call x at = sym (ap (λ o. unwrap_or (option_map (after_delete_tree_of r u m cost call) o) r) at)

pub reply_is : (r : Repository) (u : List ℕ) (m : Moment) (cost : ℕ) (call : DeleteTree) (x : Object) → addressed r u call.place ≡ Some x
    → acknowledgement_delete_tree_of r u m cost call x ≡ acknowledgement_delete_tree r u m cost call
reply_is r u m cost call x at = sym (ap (λ o. unwrap_or (option_map (acknowledgement_delete_tree_of r u m cost call) o) (record { ids = [] })) at)
