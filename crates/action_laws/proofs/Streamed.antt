-- Contents that are not changed, and contents that are.
use Rattle.std.specs.Prelude.{◌≡◌, ℕ, true, not, List, [], ◌∷◌, ◌&&◌, is_some}
use Rattle.std.proofs.Common.{refl}
use Rattle.cm_base.specs.declared.number.Moment.{Moment}
use Rattle.cm_base.specs.declared.access.Level.TheVariants as levels
use Rattle.cm_base.specs.declared.cause.Cause.TheVariants as causes
use Rattle.cm_base.specs.Judged.{◌>>=◌, ◌>>◌, find_or, first_cause, refuse}
use Rattle.cm_types.specs.declared.definition.BaseType.TheVariants as bases
use Rattle.action_parts.specs.declared.action.Action.TheVariants as actions
use Rattle.call_parts.specs.declared.changes.DeleteContent.{DeleteContent}
use Rattle.call_parts.specs.declared.changes.SetContent.{SetContent}
use Rattle.cm_see.specs.Addressed.{addressed}
use Rattle.cm_state.specs.Looks.{content_at}
use Rattle.cmis_spec.specs.Repository.{Repository, is_a}
use Rattle.cmis_spec.specs.Access.{is_at_least, level_of_caller}
use Rattle.cmis_spec.specs.Documents.{judge_changeable}
use Rattle.cmis_spec.specs.Retention.{is_under_hold, judge_kept, retained_cause}
use Rattle.wr_rules.specs.Documents.{is_too_long}
use Rattle.wr_rules.specs.Rules.{judge_storage, judge_token}
use Rattle.wr_content.specs.Document.{is_barred, is_needed, judge_document}
use Rattle.wr_content.specs.SetContent.{judge_stream, refusal_set_content}
use Rattle.wr_content.specs.DeleteContent.{refusal_delete_content}
use Rattle.action_laws.specs.Refused.{IsBarred, IsRefused, MayDo, NoneComes}
use Rattle.action_laws.proofs.Judging.{at_later, at_object, delete_lines, set_lines}
use Rattle.action_laws.proofs.Passing.{delete_free, none_comes, retained_aside, set_free, stands_for, token_aside, two_aside, written}

module _ (r : Repository) (u : List ℕ) (m : Moment) (cost : ℕ) where
  pub set_content : (call : SetContent) → IsBarred r u call.place actions.SetContentStream → IsRefused (refusal_set_content r u m cost call)
  set_content call b =
      let x = b.object in
      at_later (judge_storage r cost) (find_or causes.NotFound (addressed r u call.place) >>= (λ y. judge_document r u call.token y >> judge_stream r call y >> judge_kept r m (y ∷ [])))
      (at_object (addressed r u call.place) x (λ y. judge_document r u call.token y >> judge_stream r call y >> judge_kept r m (y ∷ [])) b.found
      (set_lines causes.Denied causes.WrongKind causes.StreamNot (judge_token x call.token) (judge_changeable r x)
      (refuse causes.ContentExists (not call.overwrite && is_some (content_at r x.id)) >> refuse causes.StreamLong (is_too_long call.stream))
      (first_cause (retained_cause r m) (x ∷ []))
      (is_a r bases.Document x) (is_at_least levels.Write (level_of_caller r u x)) (is_under_hold r x) (is_barred r x) b.barred))

  pub delete_content : (call : DeleteContent) (b : IsBarred r u call.place actions.DeleteContentStream) → is_some (content_at r b.object.id) ≡ true → IsRefused (refusal_delete_content r u m cost call)
  delete_content call b filled =
      let x = b.object in
      at_later (judge_storage r cost) (find_or causes.NotFound (addressed r u call.place) >>= (λ y. judge_document r u call.token y >> refuse causes.ContentRequired (is_needed r y) >> judge_kept r m (y ∷ [])))
      (at_object (addressed r u call.place) x (λ y. judge_document r u call.token y >> refuse causes.ContentRequired (is_needed r y) >> judge_kept r m (y ∷ [])) b.found
      (delete_lines causes.Denied causes.WrongKind causes.ContentRequired (judge_token x call.token) (judge_changeable r x) (first_cause (retained_cause r m) (x ∷ []))
      (is_a r bases.Document x) (is_at_least levels.Write (level_of_caller r u x)) (is_under_hold r x) (is_some (content_at r x.id)) (is_needed r x) b.barred filled))

  pub set_content_allowed : (call : SetContent) → MayDo r u call.place actions.SetContentStream → NoneComes actions.SetContentStream (refusal_set_content r u m cost call)
  set_content_allowed call b =
      let p = stands_for actions.SetContentStream in
      let x = b.object in
      none_comes actions.SetContentStream (refusal_set_content r u m cost call) refl
      (written p r cost (addressed r u call.place) x (λ y. judge_document r u call.token y >> judge_stream r call y >> judge_kept r m (y ∷ [])) (λ i j k. refl) b.found
      (set_free p (is_a r bases.Document x) (is_at_least levels.Write (level_of_caller r u x)) (judge_changeable r x) (is_under_hold r x) (is_barred r x) (judge_token x call.token)
      (refuse causes.ContentExists (not call.overwrite && is_some (content_at r x.id)) >> refuse causes.StreamLong (is_too_long call.stream)) (first_cause (retained_cause r m) (x ∷ []))
      b.allowed (token_aside p x call.token (λ text. refl))
      (two_aside p causes.ContentExists causes.StreamLong (not call.overwrite && is_some (content_at r x.id)) (is_too_long call.stream) refl refl)
      (retained_aside p r m (x ∷ []) (λ e. refl))))

  pub delete_content_allowed : (call : DeleteContent) → MayDo r u call.place actions.DeleteContentStream → NoneComes actions.DeleteContentStream (refusal_delete_content r u m cost call)
  delete_content_allowed call b =
      let p = stands_for actions.DeleteContentStream in
      let x = b.object in
      none_comes actions.DeleteContentStream (refusal_delete_content r u m cost call) refl
      (written p r cost (addressed r u call.place) x (λ y. judge_document r u call.token y >> refuse causes.ContentRequired (is_needed r y) >> judge_kept r m (y ∷ [])) (λ i j k. refl) b.found
      (delete_free p (is_a r bases.Document x) (is_at_least levels.Write (level_of_caller r u x)) (judge_changeable r x) (is_under_hold r x) (is_some (content_at r x.id)) (is_needed r x)
      (judge_token x call.token) (first_cause (retained_cause r m) (x ∷ [])) b.allowed (token_aside p x call.token (λ text. refl)) (retained_aside p r m (x ∷ []) (λ e. refl))))
