-- What a call makes is well formed, and is found; the room for it.
use Rattle.std.specs.Prelude.{◌≡◌, ℕ, ◌+◌, ◌<◌, ◌^◌, true, false, not, ◌||◌, List, [], find, Option, Some, None, Ok, is_some}
use Rattle.std.proofs.Common.{refl, sym, ap, subst, ◌∙◌, arith}
use Rattle.std.proofs.lemmas.List.Elements.{All-weaker}
use Rattle.cm_base.specs.declared.number.Oid.{Oid}
use Rattle.cm_base.specs.declared.number.Moment.{Moment}
use Rattle.cm_base.specs.declared.object.Object.{Object}
use Rattle.cm_base.specs.declared.value.Slot.{Slot}
use Rattle.cm_types.specs.declared.definition.TypeDef.{TypeDef}
use Rattle.cm_types.specs.declared.definition.BaseType.{BaseType}
use Rattle.cm_types.specs.declared.definition.BaseType.TheVariants as bases
use Rattle.cm_types.specs.declared.given.Given.{Given}
use Rattle.cm_types.specs.declared.given.PropertyCall.TheVariants as calls
use Rattle.cm_types.specs.Types.{type_in, same_base}
use Rattle.cm_types.specs.Properties.{judge_properties}
use Rattle.create_parts.specs.declared.writes.ObjectRequest.{ObjectRequest}
use Rattle.cmis_spec.specs.Values.{values_kept}
use Rattle.cmis_spec.specs.Repository.{Repository, same, object_at, is_a, new_number}
use Rattle.cmis_spec.specs.Changes.{stepped, with_object}
use Rattle.cmis_spec.specs.Well.{Apart, ComesBefore, HasNumbers, HasEnds, IsTyped, IsWellFormed}
use Rattle.cmis_laws.proofs.Lists.{find_last, same_refl}
use Rattle.cmis_laws.proofs.Entries.{is_other}
use Rattle.cmis_laws.proofs.Kept.{kept_new}
use Rattle.cmis_laws.proofs.Once.{owns_new}
use Rattle.cmis_laws.proofs.Made.{IsMade}
use Rattle.cmis_laws.proofs.Passed.{not_false, or_left, or_right}
use Rattle.cmis_laws.proofs.Steps.{HasRoom}
use Rattle.wr_rules.specs.Rules.{distinct, type_id_in, secondary_in, has_other_secondary, has_other_policy, policies_in, new_aces}
use Rattle.wr_rules.proofs.Known.{below_secondary}
use Rattle.wr_rules.proofs.Room.{fits_of, next_fits_of}
use Rattle.wr_rules.specs.Wanted.{Wanted, wanted_in}
use Rattle.wr_object.specs.CreateFolder.{object_of}
use Rattle.wr_object.specs.CreateDocument.{filed_at}
use Rattle.wr_object.proofs.CreateFolder.{IsGood, new_permit, distinct_all, good_all, named_all}
use Rattle.wr_create.specs.declared.making.NewObject.{NewObject}
use Rattle.wr_create.specs.Making.{new_object, new_of, made_by, after_making}

-- ---- the room

-- one more number, step and cost stay numbers of 64 bits
pub record HasNumbersLeft (r : Repository) (cost : ℕ) : Type 0 where
  pub next : r.next + 1 < 2 ^ 64
  pub step : r.step + 1 < 2 ^ 64
  pub paid : r.cost + cost < 2 ^ 64

pub numbers_left : (r : Repository) (cost : ℕ) → IsWellFormed r → HasRoom r cost → HasNumbersLeft r cost
numbers_left r cost w room =
    let fits = fits_of r cost w room in
    record { next = next_fits_of r w; step = fits.0; paid = fits.1 }

-- ---- the new object is found under its number

-- a place changes no object
same_objects : (q : Repository) (folder : Option Oid) (n : Oid) → (filed_at q folder n).objects ≡ q.objects
same_objects q None n = refl
same_objects q (Some folder) n = refl

pub new_is_there : (r : Repository) (cost : ℕ) (new : NewObject) → HasNumbers r → new.object.id ≡ new_number r → object_at (after_making r cost new) (new_number r) ≡ Some new.object
new_is_there r cost new w e =
    ap (λ xs. find (λ x. same x.id (new_number r)) xs) (same_objects (with_object (stepped r cost) new.object new.aces new.policies) new.folder new.object.id)
    ∙ find_last (λ x. same x.id (new_number r)) r.objects new.object
    (All-weaker (λ x. x.id.0 < r.next) (λ x. same x.id (new_number r) ≡ false) (λ x lt. is_other x.id (new_number r) lt) r.objects w.1)
    (subst (λ n. same n (new_number r) ≡ true) (sym e) (same_refl (new_number r)))

-- ---- what is found makes what the call says

pub object_is : (r : Repository) (u : List ℕ) (m : Moment) (given : List Given) (wanted : Wanted) (values : List Slot) → wanted ≡ wanted_in r.types given → values ≡ values_kept calls.Create wanted.defs [] given
    → object_of r u m wanted values ≡ new_object r u m given
object_is r u m given wanted values e f =
    let kept = f ∙ ap (λ w. values_kept calls.Create w.defs [] given) e in
    λ i. object_of r u m (e i) (kept i)

pub made_is : (r : Repository) (u : List ℕ) (m : Moment) (request : ObjectRequest) (given : List Given) (new : NewObject) (x : Object) (found folder : Option Oid)
    → new ≡ new_of r u request x found → x ≡ new_object r u m given → found ≡ folder → new ≡ made_by r u m request given folder
made_is r u m request given new x found folder e f g = e ∙ (λ i. new_of r u request (f i) (g i))

-- ---- what the object is, once its call is not refused

pub record IsMaking (r : Repository) (u : List ℕ) (cost : ℕ) (base : BaseType) (object : ObjectRequest) (given : List Given) : Type 0 where
  pub room : HasRoom r cost
  pub kind : TypeDef
  pub def : type_in r.types (type_id_in given) ≡ Some kind
  pub fits : not (same_base base kind.base) || has_other_secondary r.types (secondary_in given) ≡ false
  pub properties : judge_properties calls.Create (wanted_in r.types given).defs [] given ≡ Ok tt
  pub policies : has_other_policy r u object.policies ≡ false

module _ (r : Repository) (u : List ℕ) (m : Moment) (cost : ℕ) (base : BaseType) (object : ObjectRequest) (given : List Given) (w : IsWellFormed r) (p : IsMaking r u cost base object given) where
  abbrev x : Object
  x = new_object r u m given

  pub base_is : is_a r base x ≡ true
  base_is = rw p.def (not_false (same_base base p.kind.base) (or_left (not (same_base base p.kind.base)) (has_other_secondary r.types (secondary_in given)) p.fits))

  typed : IsTyped r.types x
  typed = (ap is_some p.def, below_secondary r.types (secondary_in given) (or_right (not (same_base base p.kind.base)) (has_other_secondary r.types (secondary_in given)) p.fits))

  pub is_made : is_a r bases.Document x ≡ false → (is_a r bases.Relationship x ≡ true → HasEnds r x) → Apart ComesBefore (new_aces u object.remove object.add)
      → IsMade r cost x (new_aces u object.remove object.add) (policies_in r u object.policies)
  is_made no_document ends ordered = record {
    number = refl;
    alone = refl;
    named = refl;
    no_document = no_document;
    typed = typed;
    kept = kept_new r (type_id_in given) (secondary_in given) given x w.defs p.properties refl;
    owned = owns_new r.types given x w.types typed refl;
    ends = ends;
    token = omega arith;
    listed = (ordered, new_permit u object.remove object.add);
    applied = named_all r u (distinct object.policies) (distinct_all (IsGood r u) object.policies (good_all r u object.policies p.policies));
    room = p.room;
  }
