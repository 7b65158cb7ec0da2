-- Objects that are not removed, and objects that may be.
use Rattle.std.specs.Prelude.{◌≡◌, ℕ, Bool, true, false, ◌&&◌, ◌||◌, not, if◌then◌else◌, List, [], ◌∷◌, filter_map, Option, Some, None, unwrap_or, option_map, option_and_then}
use Rattle.std.specs.List.{list_any}
use Rattle.std.proofs.Common.{refl, sym, ap, subst, ◌∙◌, arith}
use Rattle.std.proofs.lemmas.Bool.{and_from, and_parts, both_ways, not_from_false, or_left, or_right}
use Rattle.cm_base.specs.declared.number.Moment.{Moment}
use Rattle.cm_base.specs.declared.number.Oid.{Oid}
use Rattle.cm_base.specs.declared.object.Object.{Object}
use Rattle.cm_base.specs.declared.access.Level.TheVariants as levels
use Rattle.cm_base.specs.declared.cause.Cause.TheVariants as causes
use Rattle.cm_base.specs.Judged.{Judged, ◌>>=◌, ◌>>◌, find_or, first_cause, refuse}
use Rattle.cm_types.specs.declared.definition.BaseType.TheVariants as bases
use Rattle.action_parts.specs.declared.action.Action.TheVariants as actions
use Rattle.call_parts.specs.declared.versions.CancelCheckOut.{CancelCheckOut}
use Rattle.call_parts.specs.declared.versions.Delete.{Delete}
use Rattle.delete_tree_parts.specs.declared.writes.DeleteTree.{DeleteTree}
use Rattle.cm_see.specs.Addressed.{addressed}
use Rattle.cmis_spec.specs.Repository.{Repository, same, root, object_at, series_at, series_of, is_a}
use Rattle.cmis_spec.specs.Access.{is_at_least, lacks, level_of_caller}
use Rattle.cmis_spec.specs.Documents.{is_working_copy}
use Rattle.cmis_spec.specs.Retention.{is_under_hold, judge_kept, retained_cause}
use Rattle.cmis_spec.specs.Well.{Belongs, IsWellFormed, members}
use Rattle.cmis_laws.proofs.Lists.{by_test, found_holds, same_eq, same_refl}
use Rattle.wr_rules.specs.Documents.{is_checked_out}
use Rattle.wr_rules.specs.Retained.{is_held_at}
use Rattle.wr_rules.specs.Rules.{judge_storage}
use Rattle.wr_rules.proofs.Found.{addressed_there}
use Rattle.wr_rules.proofs.Numbers.{held_numbers}
use Rattle.wr_remove.specs.CancelCheckOut.{refusal_cancel}
use Rattle.cm_state.specs.Looks.{is_policy_used}
use Rattle.wr_remove.specs.Delete.{doomed, is_filled, judge_removal, refusal_delete}
use Rattle.wr_delete_tree.specs.DeleteTree.{refusal_delete_tree}
use Rattle.action_laws.specs.Refused.{IsBarred, IsRefused, MayDo, NoneComes, OnlyComes, is_another_held}
use Rattle.action_laws.proofs.Judging.{at_later, at_object, removal_lines, cancel_lines, tree_lines}
use Rattle.action_laws.proofs.Passing.{cancel_free, is_held, none_comes, only_comes, removal_free, retained_aside, stands_but, stands_for, tree_free, two_aside, written}
use Rattle.action_laws.proofs.Series.{copy_document}

-- ---- what is addressed is among what would go

-- what holds of a number that is in a list holds of one of them
any_of : (p : Oid → Bool) (n : Oid) (ns : List Oid) → list_any (same n) ns ≡ true → p n ≡ true → list_any p ns ≡ true
any_of p n [] h e = absurd (both_ways false refl h)
any_of p n (k ∷ ns) h e = by_test (same n k)
    (λ s. rw (ap p (sym (same_eq n k s)) ∙ e) refl)
    (λ s. later (p k) (any_of p n ns (rest s h) e))
  where
    rest : same n k ≡ false → list_any (same n) (k ∷ ns) ≡ true → list_any (same n) ns ≡ true
    rest s h = rw s at h

    later : (b : Bool) → list_any p ns ≡ true → list_any p (k ∷ ns) ≡ true
    later b h = grind (arith, h)

alone : (n : Oid) → list_any (same n) (n ∷ []) ≡ true
alone n = rw (same_refl n) refl

in_series : (r : Repository) (x : Object) (o : Option Oid) → Belongs r x o → list_any (same x.id) (unwrap_or (option_map members (option_and_then (series_at r) o)) (x.id ∷ [])) ≡ true
in_series r x None b = alone x.id
in_series r x (Some n) b = ap (λ s. list_any (same x.id) (unwrap_or (option_map members s) (x.id ∷ []))) b.1.1 ∙ b.1.2

is_doomed : (r : Repository) (call : Delete) (x : Object) → Belongs r x x.series → list_any (same x.id) (doomed r call x) ≡ true
is_doomed r call x b = by (call.all_versions && not (is_working_copy r x))
  where
    by : (all : Bool) → list_any (same x.id) (if all then unwrap_or (option_map members (series_of r x)) (x.id ∷ []) else x.id ∷ []) ≡ true
    by true = in_series r x x.series b
    by false = alone x.id

-- an object that is held keeps all that would go with it
one_held : (r : Repository) (call : Delete) (x : Object) → Belongs r x x.series → object_at r x.id ≡ Some x → (is_under_hold r x && not (list_any (is_under_hold r) (filter_map (object_at r) (doomed r call x)))) ≡ false
one_held r call x b there = by_test (is_under_hold r x)
    (λ e.
    let at : is_held_at r x.id ≡ true = ap (λ o. unwrap_or (option_map (is_under_hold r) o) false) there ∙ e in
    let held : list_any (is_under_hold r) (filter_map (object_at r) (doomed r call x)) ≡ true = sym (held_numbers r (doomed r call x)) ∙ any_of (is_held_at r) x.id (doomed r call x) (is_doomed r call x b) at in
    rw (e, held) refl)
    (λ e. rw e refl)

-- where one is held, and not this one, another one is
others_held : (r : Repository) (n : Oid) (ns : List Oid) → is_held_at r n ≡ false → list_any (is_held_at r) ns ≡ true → list_any (λ k. not (same k n) && is_held_at r k) ns ≡ true
others_held r n [] free h = absurd (both_ways false refl h)
others_held r n (k ∷ ks) free h = by_test (is_held_at r k)
    (λ e. or_left (not (same k n) && is_held_at r k) (list_any (λ j. not (same j n) && is_held_at r j) ks) (and_from (not (same k n)) (is_held_at r k) (not_from_false (same k n) (other e)) e))
    (λ e. or_right (not (same k n) && is_held_at r k) (list_any (λ j. not (same j n) && is_held_at r j) ks) (others_held r n ks free (subst (λ b. (b || list_any (is_held_at r) ks) ≡ true) e h)))
  where
    other : is_held_at r k ≡ true → same k n ≡ false
    other e = by_test (same k n) (λ s. absurd (both_ways (is_held_at r k) (ap (is_held_at r) (same_eq k n s) ∙ free) e)) (λ s. s)

-- of the line of the action
not_held : (w top held free : Bool) → (w && not top && not held && free) ≡ true → held ≡ false
not_held true false false free h = refl
not_held w top held free h = absurd (both_ways false refl h)

-- ---- the calls

module _ (r : Repository) (u : List ℕ) (m : Moment) (cost : ℕ) where
  abbrev removal : Delete → Object → Judged (Unit {0})
  removal call y = refuse causes.Denied (lacks r u levels.All y) >> judge_removal r y >> judge_kept r m (filter_map (object_at r) (doomed r call y))

  pub delete : (call : Delete) → IsWellFormed r → IsBarred r u call.place actions.DeleteObject → IsRefused (refusal_delete r u m cost call)
  delete call w b =
      let x = b.object in
      let there : object_at r x.id ≡ Some x = addressed_there r u call.place x w.numbers b.found in
      let gone = filter_map (object_at r) (doomed r call x) in
      at_later (judge_storage r cost) (find_or causes.NotFound (addressed r u call.place) >>= removal call)
      (at_object (addressed r u call.place) x (removal call) b.found
      (removal_lines causes.Denied causes.RootFixed causes.CheckedOut (refuse causes.NotEmpty (is_filled r x) >> refuse causes.PolicyInUse (is_policy_used r x.id)) (first_cause (retained_cause r m) gone)
      (is_at_least levels.All (level_of_caller r u x)) (same x.id root) (is_under_hold r x) (is_working_copy r x) (is_checked_out r x) (list_any (is_under_hold r) gone)
      (one_held r call x (found_holds (λ z. Belongs r z z.series) (λ z. same z.id x.id) r.objects x w.documents there) there) b.barred))

  pub delete_allowed : (call : Delete) → IsWellFormed r → (b : MayDo r u call.place actions.DeleteObject) → OnlyComes actions.DeleteObject causes.Held (is_another_held r call b.object) (refusal_delete r u m cost call)
  delete_allowed call w b =
      let x = b.object in
      let p = stands_but actions.DeleteObject causes.Held (is_another_held r call x) in
      let there : object_at r x.id ≡ Some x = addressed_there r u call.place x w.numbers b.found in
      let gone = filter_map (object_at r) (doomed r call x) in
      let free : is_held_at r x.id ≡ false = ap (λ o. unwrap_or (option_map (is_under_hold r) o) false) there
      ∙ not_held (is_at_least levels.All (level_of_caller r u x)) (same x.id root) (is_under_hold r x) (is_working_copy r x || not (is_checked_out r x)) b.allowed in
      only_comes actions.DeleteObject causes.Held (is_another_held r call x) (refusal_delete r u m cost call) is_held refl
      (written p r cost (addressed r u call.place) x (removal call) (λ i j k. refl) b.found
      (removal_free p (is_at_least levels.All (level_of_caller r u x)) (same x.id root) (is_under_hold r x) (is_working_copy r x) (is_checked_out r x) (list_any (is_under_hold r) gone)
      (refuse causes.NotEmpty (is_filled r x) >> refuse causes.PolicyInUse (is_policy_used r x.id)) (first_cause (retained_cause r m) gone) b.allowed
      (λ k. ap not (others_held r x.id (doomed r call x) free (held_numbers r (doomed r call x) ∙ k)))
      (two_aside p causes.NotEmpty causes.PolicyInUse (is_filled r x) (is_policy_used r x.id) refl refl) (retained_aside p r m gone (λ e. refl))))

module _ (r : Repository) (u : List ℕ) (cost : ℕ) where
  pub cancel_check_out : (call : CancelCheckOut) → IsBarred r u call.place actions.CancelCheckOut → IsRefused (refusal_cancel r u cost call)
  cancel_check_out call b =
      let x = b.object in
      at_later (judge_storage r cost)
      (find_or causes.NotFound (addressed r u call.place) >>= (λ y. refuse causes.Denied (lacks r u levels.Write y) >> refuse causes.WrongKind (not (is_a r bases.Document y)) >> refuse causes.NotWorking (not (is_working_copy r y))))
      (at_object (addressed r u call.place) x
      (λ y. refuse causes.Denied (lacks r u levels.Write y) >> refuse causes.WrongKind (not (is_a r bases.Document y)) >> refuse causes.NotWorking (not (is_working_copy r y))) b.found
      (cancel_lines causes.Denied causes.WrongKind causes.NotWorking
      (is_a r bases.Document x) (is_at_least levels.Write (level_of_caller r u x)) (is_working_copy r x) b.barred))

  -- a working copy is a document
  pub cancel_allowed : (call : CancelCheckOut) → IsWellFormed r → MayDo r u call.place actions.CancelCheckOut → NoneComes actions.CancelCheckOut (refusal_cancel r u cost call)
  cancel_allowed call w b =
      let p = stands_for actions.CancelCheckOut in
      let x = b.object in
      let there : object_at r x.id ≡ Some x = addressed_there r u call.place x w.numbers b.found in
      let document : is_a r bases.Document x ≡ true = copy_document r x (found_holds (λ z. Belongs r z z.series) (λ z. same z.id x.id) r.objects x w.documents there)
      (and_parts (is_working_copy r x) (is_at_least levels.Write (level_of_caller r u x)) b.allowed).0 in
      none_comes actions.CancelCheckOut (refusal_cancel r u cost call) refl
      (written p r cost (addressed r u call.place) x
      (λ y. refuse causes.Denied (lacks r u levels.Write y) >> refuse causes.WrongKind (not (is_a r bases.Document y)) >> refuse causes.NotWorking (not (is_working_copy r y))) (λ i j k. refl) b.found
      (cancel_free p (is_working_copy r x) (is_at_least levels.Write (level_of_caller r u x)) (is_a r bases.Document x) b.allowed document))

  pub delete_tree : (call : DeleteTree) → IsBarred r u call.place actions.DeleteTree → IsRefused (refusal_delete_tree r u cost call)
  delete_tree call b =
      let x = b.object in
      at_later (judge_storage r cost)
      (find_or causes.NotFound (addressed r u call.place) >>= (λ y. refuse causes.Denied (lacks r u levels.All y) >> refuse causes.WrongKind (not (is_a r bases.Folder y)) >> refuse causes.RootFixed (same y.id root)))
      (at_object (addressed r u call.place) x
      (λ y. refuse causes.Denied (lacks r u levels.All y) >> refuse causes.WrongKind (not (is_a r bases.Folder y)) >> refuse causes.RootFixed (same y.id root)) b.found
      (tree_lines causes.Denied causes.WrongKind causes.RootFixed (is_at_least levels.All (level_of_caller r u x)) (is_a r bases.Folder x) (same x.id root) b.barred))

  pub delete_tree_allowed : (call : DeleteTree) → MayDo r u call.place actions.DeleteTree → NoneComes actions.DeleteTree (refusal_delete_tree r u cost call)
  delete_tree_allowed call b =
      let p = stands_for actions.DeleteTree in
      let x = b.object in
      none_comes actions.DeleteTree (refusal_delete_tree r u cost call) refl
      (written p r cost (addressed r u call.place) x
      (λ y. refuse causes.Denied (lacks r u levels.All y) >> refuse causes.WrongKind (not (is_a r bases.Folder y)) >> refuse causes.RootFixed (same y.id root)) (λ i j k. refl) b.found
      (tree_free p (is_a r bases.Folder x) (is_at_least levels.All (level_of_caller r u x)) (same x.id root) b.allowed))
