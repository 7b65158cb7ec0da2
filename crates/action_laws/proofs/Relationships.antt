-- A relationship that is not made, and a relationship that may be.
use Rattle.std.specs.Prelude.{◌≡◌, ℕ, Bool, true, false, not, ◌&&◌, ◌||◌, List, Option, Some, None, is_none, option_and_then, option_map, bytes_eq, codes}
use Rattle.std.proofs.Common.{refl, ap, subst, ◌∙◌}
use Rattle.std.proofs.lemmas.Bool.{and_parts, both_ways, not-true, or_left, or_right}
use Rattle.action_parts.specs.declared.action.Action.TheVariants as actions
use Rattle.call_parts.specs.declared.place.Place.{Place}
use Rattle.call_parts.specs.declared.place.Place.TheVariants.{Id}
use Rattle.create_parts.specs.declared.writes.CreateRelationship.{CreateRelationship}
use Rattle.cm_base.specs.declared.object.Object.{Object}
use Rattle.cm_base.specs.declared.cause.Cause.{Cause}
use Rattle.cm_base.specs.declared.cause.Cause.TheVariants as causes
use Rattle.cm_base.specs.Judged.{Judged, ◌>>=◌, ◌>>◌, find_or, first_cause}
use Rattle.cm_types.specs.declared.definition.BaseType.TheVariants as bases
use Rattle.cm_types.specs.declared.definition.TypeDef.{TypeDef}
use Rattle.cm_types.specs.Types.{type_in}
use Rattle.cm_see.specs.Addressed.{addressed}
use Rattle.cmis_spec.specs.Repository.{Repository, is_a}
use Rattle.cmis_spec.specs.Access.{read_named}
use Rattle.wr_rules.specs.Rules.{judge_storage, unknown_type, unread_cause, has_other_policy}
use Rattle.wr_rules.specs.Wanted.{Wanted, wanted_in}
use Rattle.wr_create.specs.Making.{is_uncontrollable, judge_addressed, judge_request, judge_type}
use Rattle.wr_relationship.specs.CreateRelationship.{bars_end, end_at, first_given, is_relationship, judge_ends, judge_link, judge_relationship, named_by, refusal_create_relationship, refusal_of_relationship, with_name}
use Rattle.action_laws.specs.Refused.{IsBarred, IsRefused, MayDo, OnlyComes, names_relationship, source_in, target_in}
use Rattle.action_laws.proofs.Judging.{at_any, at_later, end_lines}
use Rattle.action_laws.proofs.NewItems.{request_aside, type_aside}
use Rattle.action_laws.proofs.Passing.{ends_free, find_aside, found, is_by, is_end_kind, last_aside, later, only_comes, policies_aside, stands_but, storage_aside, two_aside, types_aside}

-- ---- the ends

-- a name that is put before the properties changes no end
source_kept : (call : CreateRelationship) (name : Option (List ℕ)) → source_in (named_by name call) ≡ source_in call
source_kept call None = refl
source_kept call (Some name) = refl

target_kept : (call : CreateRelationship) (name : Option (List ℕ)) → target_in (named_by name call) ≡ target_in call
target_kept call None = refl
target_kept call (Some name) = refl

-- the end that is read
at_end : {B : Type 0} (r : Repository) (u : List ℕ) (o : Option (List ℕ)) (id : List ℕ) (x : Object) (rest : Option Object → Judged B) → o ≡ Some id → addressed r u (Id id) ≡ Some x
    → IsRefused (rest (Some x)) → IsRefused (end_at r u o >>= rest)
at_end r u o id x rest e there k = rw e (rw there k)

free_at_end : {B : Type 0} (p : Cause → Bool) (r : Repository) (u : List ℕ) (o : Option (List ℕ)) (id : List ℕ) (x : Object) (rest : Option Object → Judged B) → o ≡ Some id → addressed r u (Id id) ≡ Some x
    → is_by p (rest (Some x)) ≡ false → is_by p (end_at r u o >>= rest) ≡ false
free_at_end p r u o id x rest e there k = rw e (rw there k)

-- the other end is what its id names
free_at_other : {B : Type 0} (p : Cause → Bool) (r : Repository) (u : List ℕ) (o : Option (List ℕ)) (rest : Option Object → Judged B) → p causes.NotFound ≡ false
    → ((y : Option Object) → option_and_then (read_named r u) o ≡ y → is_by p (rest y) ≡ false) → is_by p (end_at r u o >>= rest) ≡ false
free_at_other p r u None rest k e = e None refl
free_at_other p r u (Some id) rest k e = by (read_named r u id) e
  where
    by : (y : Option Object) → ((z : Option Object) → y ≡ z → is_by p (rest z) ≡ false) → is_by p (find_or causes.NotFound (option_map Some y) >>= rest) ≡ false
    by None e = k
    by (Some y) e = e (Some y) refl

addressed_aside : (p : Cause → Bool) (r : Repository) (u : List ℕ) (place : Option Place) → p causes.NotFound ≡ false → is_by p (judge_addressed r u place) ≡ false
addressed_aside p r u None k = refl
addressed_aside p r u (Some place) k = last_aside p causes.NotFound (is_none (addressed r u place)) k

-- a call with a name, and what it asks for
module _ (r : Repository) (u : List ℕ) (cost : ℕ) (call : CreateRelationship) (wanted : Wanted) where
  abbrev of_kind : Option Object → Option Object → TypeDef → Judged (Unit {0})
  of_kind s t kind = first_cause (unknown_type r.types) wanted.secondary >> judge_ends r u call s t >> judge_relationship r call wanted s t kind

  abbrev of_ends : Option Object → Option Object → Judged (Unit {0})
  of_ends s t = first_cause (unread_cause r u) call.object.policies >> (find_or causes.TypeNotFound (type_in r.types wanted.kind) >>= of_kind s t)

  abbrev of_source : Option Object → Judged (Unit {0})
  of_source s = end_at r u (target_in call) >>= of_ends s

  -- one end is a relationship, or the caller is not known
  ends_refused : (s t : Option Object) (x : Object) → (is_a r bases.Relationship x ≡ true → (is_relationship r s || is_relationship r t) ≡ true)
      → (not (is_a r bases.Relationship x) && not (bytes_eq u (codes "anonymous"))) ≡ false → IsRefused (of_ends s t)
  ends_refused s t x k h =
      at_later (first_cause (unread_cause r u) call.object.policies) (find_or causes.TypeNotFound (type_in r.types wanted.kind) >>= of_kind s t)
      (at_any (find_or causes.TypeNotFound (type_in r.types wanted.kind)) (of_kind s t)
      (λ kind. at_later (first_cause (unknown_type r.types) wanted.secondary) (judge_ends r u call s t >> judge_relationship r call wanted s t kind)
      (end_lines causes.Denied causes.WrongKind causes.EndKind (judge_relationship r call wanted s t kind) (bytes_eq u (codes "anonymous")) (has_other_policy r u call.object.policies)
      (is_a r bases.Relationship x) (is_relationship r s || is_relationship r t) k h)))

  from_refused : (id : List ℕ) → source_in call ≡ Some id → IsBarred r u (Id id) actions.CreateRelationship → IsRefused (refusal_of_relationship r u cost call wanted)
  from_refused id e b =
      let x = b.object in
      at_later (judge_storage r cost) (judge_addressed r u call.place >> (end_at r u (source_in call) >>= of_source))
      (at_later (judge_addressed r u call.place) (end_at r u (source_in call) >>= of_source)
      (at_end r u (source_in call) id x of_source e b.found
      (at_any (end_at r u (target_in call)) (of_ends (Some x))
      (λ t. ends_refused (Some x) t x (λ k. or_left (is_a r bases.Relationship x) (is_relationship r t) k) b.barred))))

  to_refused : (id : List ℕ) → target_in call ≡ Some id → IsBarred r u (Id id) actions.CreateRelationship → IsRefused (refusal_of_relationship r u cost call wanted)
  to_refused id e b =
      let x = b.object in
      at_later (judge_storage r cost) (judge_addressed r u call.place >> (end_at r u (source_in call) >>= of_source))
      (at_later (judge_addressed r u call.place) (end_at r u (source_in call) >>= of_source)
      (at_any (end_at r u (source_in call)) of_source
      (λ s. at_end r u (target_in call) id x (of_ends s) e b.found
      (ends_refused s (Some x) x (λ k. or_right (is_relationship r s) (is_a r bases.Relationship x) k) b.barred))))

  -- what else is asked has causes of its own; an end of the wrong kind is the other one
  ends_allowed : (elsewhere : Bool) (s t : Option Object) (x : Object) → ((is_relationship r s || is_relationship r t) ≡ true → elsewhere ≡ true)
      → (not (is_a r bases.Relationship x) && not (bytes_eq u (codes "anonymous"))) ≡ true → is_by (stands_but actions.CreateRelationship causes.EndKind elsewhere) (of_ends s t) ≡ false
  ends_allowed elsewhere s t x k h =
      let p = stands_but actions.CreateRelationship causes.EndKind elsewhere in
      later p (first_cause (unread_cause r u) call.object.policies) (find_or causes.TypeNotFound (type_in r.types wanted.kind) >>= of_kind s t) (policies_aside p r u call.object.policies refl)
      (found p (find_or causes.TypeNotFound (type_in r.types wanted.kind)) (of_kind s t) (find_aside p causes.TypeNotFound (type_in r.types wanted.kind) refl)
      (λ kind.
      let asked = judge_request wanted call.object call.object.properties in
      later p (first_cause (unknown_type r.types) wanted.secondary) (judge_ends r u call s t >> judge_relationship r call wanted s t kind) (types_aside p r.types wanted.secondary refl)
      (later p (judge_ends r u call s t) (judge_relationship r call wanted s t kind)
      (ends_free p (is_a r bases.Relationship x) (bytes_eq u (codes "anonymous")) (has_other_policy r u call.object.policies) (is_relationship r s || is_relationship r t) h refl (λ j. ap not (k j)))
      (later p (judge_type r.types bases.Relationship wanted kind) (judge_link r.types call kind s t >> asked) (type_aside p r.types bases.Relationship wanted kind refl refl)
      (later p (judge_link r.types call kind s t) asked
      (two_aside p causes.EndType causes.NotControllable (bars_end r.types kind.allowed_source_types s || bars_end r.types kind.allowed_target_types t) (is_uncontrollable kind call.object) refl refl)
      (request_aside p wanted call.object call.object.properties (λ id fault. refl) refl refl))))))

  is_other : (x : Object) → (not (is_a r bases.Relationship x) && not (bytes_eq u (codes "anonymous"))) ≡ true → is_a r bases.Relationship x ≡ false
  is_other x h = not-true (is_a r bases.Relationship x) (and_parts (not (is_a r bases.Relationship x)) (not (bytes_eq u (codes "anonymous"))) h).0

  from_allowed : (id : List ℕ) → source_in call ≡ Some id → MayDo r u (Id id) actions.CreateRelationship
      → OnlyComes actions.CreateRelationship causes.EndKind (names_relationship r u (target_in call)) (refusal_of_relationship r u cost call wanted)
  from_allowed id e b =
      let elsewhere = names_relationship r u (target_in call) in
      let p = stands_but actions.CreateRelationship causes.EndKind elsewhere in
      let x = b.object in
      only_comes actions.CreateRelationship causes.EndKind elsewhere (refusal_of_relationship r u cost call wanted) is_end_kind refl
      (later p (judge_storage r cost) (judge_addressed r u call.place >> (end_at r u (source_in call) >>= of_source)) (storage_aside p r cost (λ i j k. refl))
      (later p (judge_addressed r u call.place) (end_at r u (source_in call) >>= of_source) (addressed_aside p r u call.place refl)
      (free_at_end p r u (source_in call) id x of_source e b.found
      (free_at_other p r u (target_in call) (of_ends (Some x)) refl
      (λ t at_target. ends_allowed elsewhere (Some x) t x
      (λ k. ap (is_relationship r) at_target ∙ second (is_a r bases.Relationship x) (is_relationship r t) (is_other x b.allowed) k) b.allowed)))))
    where
      second : (a d : Bool) → a ≡ false → (a || d) ≡ true → d ≡ true
      second true d off k = absurd (both_ways true off refl)
      second false d off k = k

  to_allowed : (id : List ℕ) → target_in call ≡ Some id → MayDo r u (Id id) actions.CreateRelationship
      → OnlyComes actions.CreateRelationship causes.EndKind (names_relationship r u (source_in call)) (refusal_of_relationship r u cost call wanted)
  to_allowed id e b =
      let elsewhere = names_relationship r u (source_in call) in
      let p = stands_but actions.CreateRelationship causes.EndKind elsewhere in
      let x = b.object in
      only_comes actions.CreateRelationship causes.EndKind elsewhere (refusal_of_relationship r u cost call wanted) is_end_kind refl
      (later p (judge_storage r cost) (judge_addressed r u call.place >> (end_at r u (source_in call) >>= of_source)) (storage_aside p r cost (λ i j k. refl))
      (later p (judge_addressed r u call.place) (end_at r u (source_in call) >>= of_source) (addressed_aside p r u call.place refl)
      (free_at_other p r u (source_in call) of_source refl
      (λ s at_source. free_at_end p r u (target_in call) id x (of_ends s) e b.found
      (ends_allowed elsewhere s (Some x) x
      (λ k. ap (is_relationship r) at_source ∙ first (is_relationship r s) (is_a r bases.Relationship x) (is_other x b.allowed) k) b.allowed)))))
    where
      first : (a d : Bool) → d ≡ false → (a || d) ≡ true → a ≡ true
      first true d off k = refl
      first false d off k = absurd (both_ways d off k)

-- ---- the call as it is given

abbrev wanted_by : Repository → CreateRelationship → Wanted
wanted_by r call = wanted_in r.types (with_name call).object.properties

abbrev name_in_call : CreateRelationship → Option (List ℕ)
name_in_call call = first_given call.object.properties (codes "cmis:name")

module _ (r : Repository) (u : List ℕ) (cost : ℕ) (call : CreateRelationship) where
  pub source_refused : (id : List ℕ) → source_in call ≡ Some id → IsBarred r u (Id id) actions.CreateRelationship → IsRefused (refusal_create_relationship r u cost call)
  source_refused id e b = from_refused r u cost (with_name call) (wanted_by r call) id (source_kept call (name_in_call call) ∙ e) b

  pub target_refused : (id : List ℕ) → target_in call ≡ Some id → IsBarred r u (Id id) actions.CreateRelationship → IsRefused (refusal_create_relationship r u cost call)
  target_refused id e b = to_refused r u cost (with_name call) (wanted_by r call) id (target_kept call (name_in_call call) ∙ e) b

  pub source_allowed : (id : List ℕ) → source_in call ≡ Some id → MayDo r u (Id id) actions.CreateRelationship
      → OnlyComes actions.CreateRelationship causes.EndKind (names_relationship r u (target_in call)) (refusal_create_relationship r u cost call)
  source_allowed id e b = subst (λ o. OnlyComes actions.CreateRelationship causes.EndKind (names_relationship r u o) (refusal_create_relationship r u cost call)) (target_kept call (name_in_call call))
      (from_allowed r u cost (with_name call) (wanted_by r call) id (source_kept call (name_in_call call) ∙ e) b)

  pub target_allowed : (id : List ℕ) → target_in call ≡ Some id → MayDo r u (Id id) actions.CreateRelationship
      → OnlyComes actions.CreateRelationship causes.EndKind (names_relationship r u (source_in call)) (refusal_create_relationship r u cost call)
  target_allowed id e b = subst (λ o. OnlyComes actions.CreateRelationship causes.EndKind (names_relationship r u o) (refusal_create_relationship r u cost call)) (source_kept call (name_in_call call))
      (to_allowed r u cost (with_name call) (wanted_by r call) id (target_kept call (name_in_call call) ∙ e) b)
