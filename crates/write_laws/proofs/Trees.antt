-- deleteTree keeps what is well formed.
use Rattle.std.specs.Prelude.{◌≡◌, ℕ, false, ◌||◌, not, if◌then◌else◌, List, [], ◌∷◌, fold, Ok, is_none}
use Rattle.std.proofs.Common.{subst}
use Rattle.cm_base.specs.declared.number.Moment.{Moment}
use Rattle.cm_base.specs.declared.number.Oid.{Oid}
use Rattle.delete_tree_parts.specs.declared.writes.DeleteTree.{DeleteTree}
use Rattle.cmis_spec.specs.Repository.{Repository, parent_in}
use Rattle.cmis_spec.specs.Changes.{stepped}
use Rattle.cmis_spec.specs.Removal.{deleted}
use Rattle.cmis_spec.specs.Well.{IsWellFormed}
use Rattle.cmis_laws.proofs.Passed.{or_right}
use Rattle.cmis_laws.proofs.Steps.{step_keeps}
use Rattle.wr_delete_tree.specs.declared.visit.Progress.{Progress}
use Rattle.wr_delete_tree.specs.DeleteTree.{after_delete_tree, fails, is_to_go, refusal_delete_tree, taken_out, treated, tree_of, visit, whole}
use Rattle.wr_delete_tree.proofs.Answered.{after_is}
use Rattle.wr_delete_tree.proofs.Keeping.{deletion_keeps, taking_keeps}
use Rattle.write_laws.proofs.Passing.{choose, found}

module _ (u : List ℕ) (m : Moment) (call : DeleteTree) (tree : List Oid) where
  abbrev IsWellAt : Progress → Type 0
  IsWellAt p = IsWellFormed p.state

  visit_keeps : (p : Progress) (n : Oid) → IsWellAt p → IsWellAt (visit u m call tree p n)
  visit_keeps p n w =
      let r = p.state in
      let treated_then : Progress = record { state = treated r m call tree n; ended = false } in
      let failed : Progress = record { state = r; ended = not call.continue_on_failure } in
      choose IsWellAt (p.ended || is_none (parent_in r.filed n)) p (if fails r u m call tree n then failed else treated_then)
      (λ e. w)
      (λ e. choose IsWellAt (fails r u m call tree n) failed treated_then
      (λ k. w)
      (λ able.
      let filed = or_right p.ended (is_none (parent_in r.filed n)) e in
      choose IsWellFormed (is_to_go r call tree n) (deleted r m (whole r n)) (taken_out r m tree n)
      (λ goes. deletion_keeps r u m call tree n w filed able goes)
      (λ stays. taking_keeps r m call tree n w filed stays)))

  visits_keep : (ns : List Oid) (p : Progress) → IsWellAt p → IsWellAt (fold (visit u m call tree) p ns)
  visits_keep [] p w = w
  visits_keep (n ∷ ns) p w = visits_keep ns (visit u m call tree p n) (visit_keeps p n w)

pub keeps_delete_tree : (r : Repository) (u : List ℕ) (m : Moment) (cost : ℕ) (call : DeleteTree) → IsWellFormed r → refusal_delete_tree r u cost call ≡ Ok tt → IsWellFormed (after_delete_tree r u m cost call)
keeps_delete_tree r u m cost call w h =
    let f = found r u cost call.place _ h in
    subst IsWellFormed (after_is r u m cost call f.x f.at)
    (visits_keep u m call (tree_of r f.x.id) (tree_of r f.x.id) (record { state = stepped r cost; ended = false }) (step_keeps r cost w f.room))
