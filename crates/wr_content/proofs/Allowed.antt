-- A document that a call on content does not refuse is one, and there is room for the step.
use Rattle.std.specs.Prelude.{◌≡◌, ℕ, ◌+◌, ◌<◌, ◌^◌, true, not, List, [], ◌∷◌, Option, Some, Ok, unwrap_or, option_map}
use Rattle.std.proofs.Common.{sym, ap, subst, ◌∙◌}
use Rattle.cm_base.specs.declared.number.Moment.{Moment}
use Rattle.cm_base.specs.declared.object.Object.{Object}
use Rattle.cm_base.specs.declared.access.Level.TheVariants as levels
use Rattle.cm_base.specs.declared.cause.Cause.TheVariants as causes
use Rattle.cm_base.specs.Judged.{Judged, ◌>>=◌, ◌>>◌, find_or}
use Rattle.cm_types.specs.declared.definition.BaseType.TheVariants as bases
use Rattle.call_parts.specs.declared.place.Place.{Place}
use Rattle.cm_see.specs.Addressed.{addressed}
use Rattle.cmis_spec.specs.Repository.{Repository, root_folder, object_at, is_a}
use Rattle.cmis_spec.specs.Access.{lacks}
use Rattle.cmis_spec.specs.Retention.{judge_kept}
use Rattle.cmis_spec.specs.Well.{IsWellFormed}
use Rattle.cmis_laws.proofs.Passed.{then_ok, refuse_ok, not_false}
use Rattle.cmis_laws.proofs.Steps.{HasRoom}
use Rattle.wr_rules.specs.Rules.{judge_storage, judge_token}
use Rattle.wr_rules.proofs.Room.{room_of, fits_of}
use Rattle.wr_content.specs.Document.{judge_document, document_at}

-- what is known of the object that is addressed; the rest are the lines between those that the calls share
pub record Passes (r : Repository) (cost : ℕ) (x : Object) (rest : Judged (Unit {0})) : Type 0 where
  pub room : HasRoom r cost
  pub step : r.step + 1 < 2 ^ 64
  pub bytes : r.cost + cost < 2 ^ 64
  pub document : is_a r bases.Document x ≡ true
  pub others : rest ≡ Ok tt

pub passes : (r : Repository) (u : List ℕ) (m : Moment) (cost : ℕ) (place : Place) (token : Option (List ℕ)) (rest : Object → Judged (Unit {0})) (x : Object) → IsWellFormed r → addressed r u place ≡ Some x
    → judge_storage r cost >> (find_or causes.NotFound (addressed r u place) >>= (λ y. judge_document r u token y >> (rest y >> judge_kept r m (y ∷ [])))) ≡ Ok tt → Passes r cost x (rest x)
passes r u m cost place token rest x w at h =
    let s = then_ok (judge_storage r cost) _ h in
    let f : judge_document r u token x >> (rest x >> judge_kept r m (x ∷ [])) ≡ Ok tt = subst (λ o. find_or causes.NotFound o >>= (λ y. judge_document r u token y >> (rest y >> judge_kept r m (y ∷ []))) ≡ Ok tt) at s.1 in
    let d = then_ok (judge_document r u token x) (rest x >> judge_kept r m (x ∷ [])) f in
    let a = refuse_ok causes.Denied (lacks r u levels.Write x) _ d.0 in
    let t = then_ok (judge_token x token) _ a.1 in
    let k = refuse_ok causes.WrongKind (not (is_a r bases.Document x)) _ t.1 in
    let room = room_of r cost s.0 in
    let fits = fits_of r cost w room in
    record {
      room = room;
      step = fits.0;
      bytes = fits.1;
      document = not_false (is_a r bases.Document x) k.0;
      others = (then_ok (rest x) (judge_kept r m (x ∷ [])) d.1).0;
    }

-- the repository after a call, where an object is addressed
pub after_is : (r : Repository) (u : List ℕ) (place : Place) (after : Object → Repository) (x : Object) → addressed r u place ≡ Some x → unwrap_or (option_map after (addressed r u place)) r ≡ after x
after_is r u place after x at = ap (λ o. unwrap_or (option_map after o) r) at

-- what is shown is found under the number of the object that is addressed
pub found_after : (r : Repository) (u : List ℕ) (m : Moment) (place : Place) (after : Object → Repository) (shown : Object → Object) (made : Repository) (x : Object) → addressed r u place ≡ Some x
    → made ≡ unwrap_or (option_map after (addressed r u place)) r → object_at (after x) x.id ≡ Some (shown x) → object_at made x.id ≡ Some (shown (document_at r u m place))
found_after r u m place after shown made x at e there =
    ap (λ q. object_at q x.id) (e ∙ after_is r u place after x at) ∙ (there ∙ ap (λ o. Some (shown (unwrap_or o (root_folder u m r.step)))) (sym at))
