-- Why each write that reads the moment is refused, at another moment.
use Rattle.std.specs.Prelude.{◌≡◌, ℕ, Bool, true, false, if◌then◌else◌, List, [], ◌∷◌, filter_map, Option, Some, None, Err, Ok, option_and_then, option_map}
use Rattle.std.specs.List.{list_any}
use Rattle.std.proofs.Common.{refl, ap, subst}
use Rattle.std.proofs.lemmas.Bool.{both_ways}
use Rattle.cm_base.specs.declared.cause.Cause.{Cause}
use Rattle.cm_base.specs.declared.cause.Cause.TheVariants as causes
use Rattle.cm_base.specs.declared.number.Moment.{Moment}
use Rattle.cm_base.specs.declared.object.Object.{Object}
use Rattle.cm_base.specs.declared.value.Slot.{Slot}
use Rattle.cm_base.specs.Judged.{Judged, ◌>>=◌, ◌>>◌, find_or, first_cause, judge_by, refuse}
use Rattle.call_parts.specs.declared.changes.AppendContent.{AppendContent}
use Rattle.call_parts.specs.declared.changes.DeleteContent.{DeleteContent}
use Rattle.call_parts.specs.declared.changes.SetContent.{SetContent}
use Rattle.call_parts.specs.declared.changes.UpdateProperties.{UpdateProperties}
use Rattle.call_parts.specs.declared.place.Place.{Place}
use Rattle.call_parts.specs.declared.versions.Delete.{Delete}
use Rattle.cm_base.specs.declared.access.Level.TheVariants as levels
use Rattle.cm_types.specs.declared.given.PropertyCall.TheVariants as calls
use Rattle.cm_types.specs.Properties.{judge_properties}
use Rattle.cm_see.specs.Addressed.{addressed}
use Rattle.cmis_spec.specs.Access.{lacks}
use Rattle.cmis_spec.specs.Documents.{is_working_copy}
use Rattle.cmis_spec.specs.Repository.{Repository, object_at}
use Rattle.cmis_spec.specs.Retention.{is_under_hold, judge_kept, judge_retention, retained_cause, retained_until, ends_before}
use Rattle.wr_rules.specs.Documents.{form_slots}
use Rattle.wr_rules.specs.Rules.{judge_storage, unknown_type}
use Rattle.wr_change.specs.Update.{judge_allowed, judge_new_name, judge_update, props_updated, refusal_update, secondary_named, secondary_updated, values_updated}
use Rattle.wr_content.specs.AppendContent.{judge_growth, refusal_append_content}
use Rattle.wr_content.specs.DeleteContent.{refusal_delete_content}
use Rattle.wr_content.specs.Document.{is_needed, judge_document}
use Rattle.wr_content.specs.SetContent.{judge_stream, refusal_set_content}
use Rattle.wr_remove.specs.Delete.{doomed, judge_removal, refusal_delete}
use Rattle.write_laws.specs.Moments.{is_of_retention}

-- what refuses the one, and is no cause of retention, refuses the other
abbrev pub IsSteady : {A : Type 0} → Judged A → Judged A → Type 0
IsSteady j k = (cause : Cause) → j ≡ Err cause → is_of_retention cause ≡ false → k ≡ Err cause

steady_then : {B : Type 0} (a : Judged (Unit {0})) (j k : Judged B) → IsSteady j k → IsSteady (a >> j) (a >> k)
steady_then (Ok x) j k s = s
steady_then (Err c) j k s = λ cause h no_retention. h

steady_bind : {A B : Type 0} (a : Judged A) (f g : A → Judged B) → ((x : A) → IsSteady (f x) (g x)) → IsSteady (a >>= f) (a >>= g)
steady_bind (Ok x) f g s = s x
steady_bind (Err c) f g s = λ cause h no_retention. h

-- a line that only retention refuses is no matter
abbrev IsRetention : Judged (Unit {0}) → Type 0
IsRetention j = (cause : Cause) → j ≡ Err cause → is_of_retention cause ≡ true

steady_retention : (j k : Judged (Unit {0})) → IsRetention j → IsSteady j k
steady_retention j k only = λ cause h no_retention. absurd (both_ways (is_of_retention cause) no_retention (only cause h))

-- ---- the lines of a moment

ok_err : {A : Type 0} (x : A) (c : Cause) → Ok x ≡ Err c → ⊥
ok_err x c h = both_ways false refl (ap (λ j. elim j [ Ok y ↦ false | Err d ↦ true ]) h)

cause_is : (x c : Cause) → judge_by (Some x) ≡ Err c → x ≡ c
cause_is x c h = ap (λ j. elim j [ Ok y ↦ x | Err d ↦ d ]) h

retained_only : (m : Moment) (o : Option Moment) (rest : Judged (Unit {0})) → IsRetention rest → IsRetention (judge_by (option_map (causes.Retained m) o) >> rest)
retained_only m None rest only = only
retained_only m (Some e) rest only = λ cause h. subst (λ c. is_of_retention c ≡ true) (cause_is (causes.Retained m e) cause h) refl

kept_only : (r : Repository) (m : Moment) (xs : List Object) → IsRetention (first_cause (retained_cause r m) xs)
kept_only r m [] = λ cause h. absurd (ok_err tt cause h)
kept_only r m (x ∷ xs) = retained_only m (retained_until r m x) (first_cause (retained_cause r m) xs) (kept_only r m xs)

shortened_by : (m e : Moment) (b : Bool) → IsRetention (judge_by (if b then Some (causes.Shortened m e) else None))
shortened_by m e true = λ cause h. subst (λ c. is_of_retention c ≡ true) (cause_is (causes.Shortened m e) cause h) refl
shortened_by m e false = λ cause h. absurd (ok_err tt cause h)

shortened_only : (r : Repository) (m : Moment) (secondary : List (List ℕ)) (values : List Slot) (o : Option Moment)
    → IsRetention (judge_by (option_and_then (λ e. if ends_before r.types secondary values e then Some (causes.Shortened m e) else None) o))
shortened_only r m secondary values None = λ cause h. absurd (ok_err tt cause h)
shortened_only r m secondary values (Some e) = shortened_by m e (ends_before r.types secondary values e)

steady_kept : (r : Repository) (m n : Moment) (xs : List Object) → IsSteady (judge_kept r m xs) (judge_kept r n xs)
steady_kept r m n xs = steady_then (refuse causes.Held (list_any (is_under_hold r) xs)) (first_cause (retained_cause r m) xs) (first_cause (retained_cause r n) xs)
    (steady_retention (first_cause (retained_cause r m) xs) (first_cause (retained_cause r n) xs) (kept_only r m xs))

steady_shortened : (r : Repository) (m n : Moment) (secondary : List (List ℕ)) (values : List Slot) (x : Object) → IsSteady (judge_retention r m secondary values x) (judge_retention r n secondary values x)
steady_shortened r m n secondary values x =
    steady_retention (judge_retention r m secondary values x) (judge_retention r n secondary values x) (shortened_only r m secondary values (retained_until r m x))

-- ---- the calls that read the moment

two_before : (a b j k : Judged (Unit {0})) → IsSteady j k → IsSteady (a >> (b >> j)) (a >> (b >> k))
two_before a b j k s = steady_then a (b >> j) (b >> k) (steady_then b j k s)

steady_found : (r : Repository) (u : List ℕ) (cost : ℕ) (place : Place) (f g : Object → Judged (Unit {0})) → ((x : Object) → IsSteady (f x) (g x))
    → IsSteady (judge_storage r cost >> (find_or causes.NotFound (addressed r u place) >>= f)) (judge_storage r cost >> (find_or causes.NotFound (addressed r u place) >>= g))
steady_found r u cost place f g s =
    let o = find_or causes.NotFound (addressed r u place) in
    steady_then (judge_storage r cost) (o >>= f) (o >>= g) (steady_bind o f g s)

module _ (r : Repository) (u : List ℕ) (cost : ℕ) (m n : Moment) where
  pub steady_set : (call : SetContent) → IsSteady (refusal_set_content r u m cost call) (refusal_set_content r u n cost call)
  steady_set call =
      let lines : Moment → Object → Judged (Unit {0}) = λ t x. judge_document r u call.token x >> judge_stream r call x >> judge_kept r t (x ∷ []) in
      steady_found r u cost call.place (lines m) (lines n)
      (λ x. two_before (judge_document r u call.token x) (judge_stream r call x) (judge_kept r m (x ∷ [])) (judge_kept r n (x ∷ [])) (steady_kept r m n (x ∷ [])))

  pub steady_append : (call : AppendContent) → IsSteady (refusal_append_content r u m cost call) (refusal_append_content r u n cost call)
  steady_append call =
      let lines : Moment → Object → Judged (Unit {0}) = λ t x. judge_document r u call.token x >> judge_growth r call x >> judge_kept r t (x ∷ []) in
      steady_found r u cost call.place (lines m) (lines n)
      (λ x. two_before (judge_document r u call.token x) (judge_growth r call x) (judge_kept r m (x ∷ [])) (judge_kept r n (x ∷ [])) (steady_kept r m n (x ∷ [])))

  pub steady_rid : (call : DeleteContent) → IsSteady (refusal_delete_content r u m cost call) (refusal_delete_content r u n cost call)
  steady_rid call =
      let needed : Object → Judged (Unit {0}) = λ x. refuse causes.ContentRequired (is_needed r x) in
      let lines : Moment → Object → Judged (Unit {0}) = λ t x. judge_document r u call.token x >> needed x >> judge_kept r t (x ∷ []) in
      steady_found r u cost call.place (lines m) (lines n)
      (λ x. two_before (judge_document r u call.token x) (needed x) (judge_kept r m (x ∷ [])) (judge_kept r n (x ∷ [])) (steady_kept r m n (x ∷ [])))

  pub steady_delete : (call : Delete) → IsSteady (refusal_delete r u m cost call) (refusal_delete r u n cost call)
  steady_delete call =
      let denied : Object → Judged (Unit {0}) = λ x. refuse causes.Denied (lacks r u levels.All x) in
      let gone : Object → List Object = λ x. filter_map (object_at r) (doomed r call x) in
      let lines : Moment → Object → Judged (Unit {0}) = λ t x. denied x >> judge_removal r x >> judge_kept r t (gone x) in
      steady_found r u cost call.place (lines m) (lines n)
      (λ x. two_before (denied x) (judge_removal r x) (judge_kept r m (gone x)) (judge_kept r n (gone x)) (steady_kept r m n (gone x)))

  pub steady_update : (call : UpdateProperties) → IsSteady (refusal_update r u m cost call) (refusal_update r u n cost call)
  steady_update call =
      let known : Judged (Unit {0}) = first_cause (unknown_type r.types) (secondary_named call) in
      let right : Object → Judged (Unit {0}) = λ x. judge_properties (calls.Update (is_working_copy r x)) (props_updated r call x) (form_slots r x) call.properties in
      let last : Moment → Object → Judged (Unit {0}) = λ t x. judge_retention r t (secondary_updated call x) (values_updated r call x) x in
      let later : Moment → Object → Judged (Unit {0}) = λ t x. right x >> judge_new_name r call x >> last t x in
      steady_found r u cost call.place (judge_update r u m call) (judge_update r u n call)
      (λ x. two_before known (judge_allowed r u call x) (later m x) (later n x)
      (two_before (right x) (judge_new_name r call x) (last m x) (last n x) (steady_shortened r m n (secondary_updated call x) (values_updated r call x) x)))

-- every other write is refused as it is at each moment
pub same_line : {A : Type 0} (j : Judged A) → IsSteady j j
same_line j = λ cause h no_retention. h
