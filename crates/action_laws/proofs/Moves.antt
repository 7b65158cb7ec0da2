-- Objects that stay where they are filed, and objects that may be filed elsewhere.
use Rattle.std.specs.Prelude.{◌≡◌, ℕ, Bool, true, false, not, ◌||◌, if◌then◌else◌, List, Option, Some, None, Ok, option_map, unwrap_or}
use Rattle.std.specs.List.{list_any}
use Rattle.std.proofs.Common.{refl, ap, ◌∙◌}
use Rattle.cm_base.specs.declared.object.Object.{Object}
use Rattle.cm_base.specs.declared.access.Level.TheVariants as levels
use Rattle.cm_base.specs.declared.cause.Cause.{Cause}
use Rattle.cm_base.specs.declared.cause.Cause.TheVariants as causes
use Rattle.cm_base.specs.Judged.{◌>>=◌, ◌>>◌, find_or, refuse}
use Rattle.cm_types.specs.declared.definition.BaseType.TheVariants as bases
use Rattle.action_parts.specs.declared.action.Action.TheVariants as actions
use Rattle.call_parts.specs.declared.changes.AddToFolder.{AddToFolder}
use Rattle.call_parts.specs.declared.changes.MoveObject.{MoveObject}
use Rattle.call_parts.specs.declared.changes.RemoveFromFolder.{RemoveFromFolder}
use Rattle.cm_see.specs.Addressed.{addressed}
use Rattle.cmis_spec.specs.Repository.{Repository, same, root, is_a, is_filed, is_taken, is_under, entry_name, entry_of}
use Rattle.cmis_spec.specs.Access.{is_at_least, lacks, level_of_caller, read_named}
use Rattle.cmis_spec.specs.Documents.{is_working_copy}
use Rattle.wr_rules.specs.Rules.{bars_child, judge_storage}
use Rattle.wr_filing.specs.Filing.{is_filed_kind, lacks_anywhere}
use Rattle.wr_filing.specs.AddToFolder.{has_its_name, judge_addition, refusal_add_to_folder}
use Rattle.wr_filing.specs.MoveObject.{is_too_deep, judge_move, judge_other_target, judge_place, judge_target, refusal_move}
use Rattle.wr_filing.specs.RemoveFromFolder.{judge_by_folder, judge_removal, refusal_remove_from_folder}
use Rattle.cm_actions.specs.Allowed.{by_type, is_allowed}
use Rattle.action_laws.specs.Refused.{IsBarred, IsRefused, MayDo, OnlyComes, lacks_named, lacks_out_of}
use Rattle.action_laws.proofs.Judging.{add_lines, at_any, at_later, at_object, move_lines, remove_lines, unfile_lines}
use Rattle.action_laws.proofs.Passing.{add_free, aside, found_as, is_by, is_denied, last_aside, move_free, only_comes, remove_free, stands_but, three_aside, two_aside, unfile_free, written}

module _ (r : Repository) (u : List ℕ) (cost : ℕ) where
  pub move_object : (call : MoveObject) → IsBarred r u call.place actions.MoveObject → IsRefused (refusal_move r u cost call)
  move_object call b =
      let x = b.object in
      at_later (judge_storage r cost)
      (find_or causes.NotFound (addressed r u call.place) >>= (λ y. find_or causes.NotFound (read_named r u call.source) >>= (λ s. find_or causes.NotFound (read_named r u call.target) >>= judge_move r u y s)))
      (at_object (addressed r u call.place) x (λ y. find_or causes.NotFound (read_named r u call.source) >>= (λ s. find_or causes.NotFound (read_named r u call.target) >>= judge_move r u y s)) b.found
      (at_any (find_or causes.NotFound (read_named r u call.source)) (λ s. find_or causes.NotFound (read_named r u call.target) >>= judge_move r u x s)
      (λ s. at_any (find_or causes.NotFound (read_named r u call.target)) (judge_move r u x s)
      (λ t. move_lines causes.Denied causes.NotFileable causes.WrongKind causes.RootFixed causes.NotFiled (judge_other_target r x s t)
      (is_at_least levels.Write (level_of_caller r u x)) (by_type r x (λ d. d.fileable)) (is_working_copy r x) (same x.id root) (lacks r u levels.Write s) (lacks r u levels.Write t)
      (is_filed_kind r x) (not (is_a r bases.Folder s) || not (is_a r bases.Folder t)) (not (is_filed r s.id (entry_of x))) b.barred))))

  pub add_to_folder : (call : AddToFolder) → IsBarred r u call.place actions.AddObjectToFolder → IsRefused (refusal_add_to_folder r u cost call)
  add_to_folder call b =
      let x = b.object in
      at_later (judge_storage r cost) (find_or causes.NotFound (addressed r u call.place) >>= (λ y. find_or causes.NotFound (read_named r u call.folder) >>= judge_addition r u y))
      (at_object (addressed r u call.place) x (λ y. find_or causes.NotFound (read_named r u call.folder) >>= judge_addition r u y) b.found
      (at_any (find_or causes.NotFound (read_named r u call.folder)) (judge_addition r u x)
      (λ f. add_lines causes.Denied causes.NotFileable causes.WrongKind causes.OneParent
      (refuse causes.AlreadyFiled (is_filed r f.id (entry_of x)) >> refuse causes.ChildType (bars_child r f x.kind)) (refuse causes.NameTaken (has_its_name r f.id (entry_of x)))
      (is_at_least levels.Write (level_of_caller r u x)) (by_type r x (λ d. d.fileable)) (is_working_copy r x) (is_a r bases.Folder x) (lacks r u levels.Write f)
      (is_filed_kind r x) (not (is_a r bases.Folder f)) b.barred)))

  by_folder : (x : Object) (named : Option (List ℕ)) → is_allowed r u actions.RemoveObjectFromFolder x ≡ false → IsRefused (judge_by_folder r u x named)
  by_folder x None e = unfile_lines causes.Denied causes.NotFileable causes.OneParent
      (is_at_least levels.Write (level_of_caller r u x)) (by_type r x (λ d. d.fileable)) (is_working_copy r x) (is_a r bases.Folder x) (lacks_anywhere r u (entry_of x)) (is_filed_kind r x) e
  by_folder x (Some id) e = at_any (find_or causes.NotFound (read_named r u id)) (judge_removal r u x)
      (λ f. remove_lines causes.Denied causes.NotFileable causes.WrongKind causes.OneParent (refuse causes.NotFiled (not (is_filed r f.id (entry_of x))))
      (is_at_least levels.Write (level_of_caller r u x)) (by_type r x (λ d. d.fileable)) (is_working_copy r x) (is_a r bases.Folder x) (lacks r u levels.Write f)
      (is_filed_kind r x) (not (is_a r bases.Folder f)) e)

  pub remove_from_folder : (call : RemoveFromFolder) → IsBarred r u call.place actions.RemoveObjectFromFolder → IsRefused (refusal_remove_from_folder r u cost call)
  remove_from_folder call b =
      at_later (judge_storage r cost) (find_or causes.NotFound (addressed r u call.place) >>= (λ y. judge_by_folder r u y call.folder))
      (at_object (addressed r u call.place) b.object (λ y. judge_by_folder r u y call.folder) b.found (by_folder b.object call.folder b.barred))

  -- ---- what is allowed

  -- a target has causes of its own
  target_aside : (p : Cause → Bool) (x t : Object) (b : Bool) → p causes.AlreadyFiled ≡ false → p causes.ChildType ≡ false → p causes.Below ≡ false → p causes.Deep ≡ false → p causes.NameTaken ≡ false
      → is_by p (if b then Ok tt else judge_target r x t) ≡ false
  target_aside p x t true k l d e n = refl
  target_aside p x t false k l d e n =
      aside p causes.AlreadyFiled (is_filed r t.id (entry_of x)) (refuse causes.ChildType (bars_child r t x.kind) >> judge_place r (entry_of x) t.id) k
      (aside p causes.ChildType (bars_child r t x.kind) (judge_place r (entry_of x) t.id) l
      (three_aside p causes.Below causes.Deep causes.NameTaken (is_under r t.id (entry_of x)) (list_any (is_too_deep r (entry_of x) t.id) r.objects)
      (is_taken r t.id (entry_of x) (entry_name r (entry_of x))) d e n))

  -- the folder that is found is the one that is named
  lacks_found : (id : List ℕ) (f : Object) → read_named r u id ≡ Some f → lacks_named r u id ≡ lacks r u levels.Write f
  lacks_found id f e = ap (λ o. unwrap_or (option_map (lacks r u levels.Write) o) false) e

  pub move_allowed : (call : MoveObject) (b : MayDo r u call.place actions.MoveObject) → is_filed_kind r b.object ≡ true
      → OnlyComes actions.MoveObject causes.Denied (lacks_named r u call.source || lacks_named r u call.target) (refusal_move r u cost call)
  move_allowed call b kind =
      let p = stands_but actions.MoveObject causes.Denied (lacks_named r u call.source || lacks_named r u call.target) in
      let x = b.object in
      only_comes actions.MoveObject causes.Denied (lacks_named r u call.source || lacks_named r u call.target) (refusal_move r u cost call) is_denied refl
      (written p r cost (addressed r u call.place) x
      (λ y. find_or causes.NotFound (read_named r u call.source) >>= (λ s. find_or causes.NotFound (read_named r u call.target) >>= judge_move r u y s)) (λ i j k. refl) b.found
      (found_as p causes.NotFound (read_named r u call.source) (λ s. find_or causes.NotFound (read_named r u call.target) >>= judge_move r u x s) refl
      (λ s at_source. found_as p causes.NotFound (read_named r u call.target) (judge_move r u x s) refl
      (λ t at_target. move_free p (is_at_least levels.Write (level_of_caller r u x)) (by_type r x (λ d. d.fileable)) (is_working_copy r x) (same x.id root) (is_filed_kind r x)
      (lacks r u levels.Write s) (lacks r u levels.Write t) (not (is_a r bases.Folder s) || not (is_a r bases.Folder t)) (not (is_filed r s.id (entry_of x))) (judge_other_target r x s t)
      b.allowed kind
      (λ k. ap (λ a. not (a || lacks_named r u call.target)) (lacks_found call.source s at_source)
      ∙ (ap (λ a. not (lacks r u levels.Write s || a)) (lacks_found call.target t at_target) ∙ ap not k))
      refl refl (target_aside p x t (same s.id t.id) refl refl refl refl refl)))))

  pub add_allowed : (call : AddToFolder) (b : MayDo r u call.place actions.AddObjectToFolder) → is_filed_kind r b.object ≡ true
      → OnlyComes actions.AddObjectToFolder causes.Denied (lacks_named r u call.folder) (refusal_add_to_folder r u cost call)
  add_allowed call b kind =
      let p = stands_but actions.AddObjectToFolder causes.Denied (lacks_named r u call.folder) in
      let x = b.object in
      only_comes actions.AddObjectToFolder causes.Denied (lacks_named r u call.folder) (refusal_add_to_folder r u cost call) is_denied refl
      (written p r cost (addressed r u call.place) x (λ y. find_or causes.NotFound (read_named r u call.folder) >>= judge_addition r u y) (λ i j k. refl) b.found
      (found_as p causes.NotFound (read_named r u call.folder) (judge_addition r u x) refl
      (λ f at_folder. add_free p (is_at_least levels.Write (level_of_caller r u x)) (by_type r x (λ d. d.fileable)) (is_working_copy r x) (is_a r bases.Folder x) (is_filed_kind r x)
      (lacks r u levels.Write f) (not (is_a r bases.Folder f))
      (refuse causes.AlreadyFiled (is_filed r f.id (entry_of x)) >> refuse causes.ChildType (bars_child r f x.kind)) (refuse causes.NameTaken (has_its_name r f.id (entry_of x)))
      b.allowed kind (λ k. ap not (lacks_found call.folder f at_folder ∙ k)) refl
      (two_aside p causes.AlreadyFiled causes.ChildType (is_filed r f.id (entry_of x)) (bars_child r f x.kind) refl refl)
      (last_aside p causes.NameTaken (has_its_name r f.id (entry_of x)) refl))))

  out_of_folder : (x : Object) (named : Option (List ℕ)) → is_allowed r u actions.RemoveObjectFromFolder x ≡ true → is_filed_kind r x ≡ true
      → is_by (stands_but actions.RemoveObjectFromFolder causes.Denied (lacks_out_of r u x named)) (judge_by_folder r u x named) ≡ false
  out_of_folder x None e kind = unfile_free (stands_but actions.RemoveObjectFromFolder causes.Denied (lacks_anywhere r u (entry_of x)))
      (is_at_least levels.Write (level_of_caller r u x)) (by_type r x (λ d. d.fileable)) (is_working_copy r x) (is_a r bases.Folder x) (is_filed_kind r x)
      (lacks_anywhere r u (entry_of x)) e kind (λ k. ap not k)
  out_of_folder x (Some id) e kind =
      let p = stands_but actions.RemoveObjectFromFolder causes.Denied (lacks_named r u id) in
      found_as p causes.NotFound (read_named r u id) (judge_removal r u x) refl
      (λ f at_folder. remove_free p (is_at_least levels.Write (level_of_caller r u x)) (by_type r x (λ d. d.fileable)) (is_working_copy r x) (is_a r bases.Folder x) (is_filed_kind r x)
      (lacks r u levels.Write f) (not (is_a r bases.Folder f)) (refuse causes.NotFiled (not (is_filed r f.id (entry_of x)))) e kind
      (λ k. ap not (lacks_found id f at_folder ∙ k)) refl (last_aside p causes.NotFiled (not (is_filed r f.id (entry_of x))) refl))

  pub remove_allowed : (call : RemoveFromFolder) (b : MayDo r u call.place actions.RemoveObjectFromFolder) → is_filed_kind r b.object ≡ true
      → OnlyComes actions.RemoveObjectFromFolder causes.Denied (lacks_out_of r u b.object call.folder) (refusal_remove_from_folder r u cost call)
  remove_allowed call b kind =
      only_comes actions.RemoveObjectFromFolder causes.Denied (lacks_out_of r u b.object call.folder) (refusal_remove_from_folder r u cost call) is_denied refl
      (written (stands_but actions.RemoveObjectFromFolder causes.Denied (lacks_out_of r u b.object call.folder)) r cost (addressed r u call.place) b.object
      (λ y. judge_by_folder r u y call.folder) (λ i j k. refl) b.found (out_of_folder b.object call.folder b.allowed kind))
