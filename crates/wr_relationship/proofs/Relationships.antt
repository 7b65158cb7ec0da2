-- createRelationship keeps what is well formed.
use Rattle.std.specs.Prelude.{◌≡◌, ℕ, false, ◌||◌, List, [], Option, Some, None, Ok, option_map, unwrap_or, codes}
use Rattle.std.proofs.Common.{refl, sym, subst}
use Rattle.std.proofs.lemmas.List.Elements.{All-append}
use Rattle.cm_base.specs.declared.number.Moment.{Moment}
use Rattle.cm_base.specs.declared.object.Object.{Object}
use Rattle.cm_base.specs.declared.cause.Cause.TheVariants as causes
use Rattle.cm_base.specs.Judged.{find_or, first_cause}
use Rattle.cm_types.specs.declared.definition.BaseType.TheVariants as bases
use Rattle.cm_types.specs.declared.given.PropertyCall.TheVariants as calls
use Rattle.cm_types.specs.Types.{type_in}
use Rattle.cm_types.specs.Properties.{texts_of, value_in, given_cause, missing_cause}
use Rattle.create_parts.specs.declared.writes.CreateRelationship.{CreateRelationship}
use Rattle.cmis_spec.specs.Repository.{Repository, is_a}
use Rattle.cmis_spec.specs.Access.{read_named, object_named}
use Rattle.cmis_spec.specs.Well.{Apart, ComesBefore, HasEnds, IsEnd, IsWellFormed}
use Rattle.cmis_laws.proofs.Lists.{none_some, some_eq}
use Rattle.cmis_laws.proofs.Entries.{not_both}
use Rattle.cmis_laws.proofs.Made.{made_keeps}
use Rattle.cmis_laws.proofs.Passed.{err_ok, then_ok, refuse_ok, refused_not, find_ok, first_none, or_left, or_right}
use Rattle.wr_rules.specs.Rules.{judge_storage, unknown_type, unread_cause, has_other_policy, policies_in, new_aces}
use Rattle.wr_rules.proofs.Found.{read_there}
use Rattle.wr_rules.proofs.Room.{room_of}
use Rattle.wr_rules.specs.Wanted.{wanted_in}
use Rattle.wr_object.specs.CreateDocument.{may_not_make}
use Rattle.wr_object.proofs.CreatedDocument.{bind_ok, ok_eq}
use Rattle.wr_create.specs.Making.{judge_addressed, judge_type, judge_request, new_object, after_making}
use Rattle.wr_create.proofs.Lines.{type_ok, request_ok}
use Rattle.wr_create.proofs.Made.{IsMaking, base_is, is_made}
use Rattle.wr_relationship.specs.CreateRelationship.{first_given, end_at, is_relationship, judge_ends, judge_link, judge_relationship, refusal_of_relationship, relationship_of}
use Rattle.wr_relationship.proofs.KeptEnds.{one_end, ends_kept}

-- what is read at an end, and is no relationship, may be one
end_is : (r : Repository) (u : List ℕ) (end : Option (List ℕ)) (found : Option Object) → end_at r u end ≡ Ok found → is_relationship r found ≡ false → (t : List ℕ) → end ≡ Some t → IsEnd r t
end_is r u None found h k t e = absurd (none_some t e)
end_is r u (Some id) found h k t e = subst (IsEnd r) (some_eq id t e) (by (read_named r u id) refl h)
  where
    by : (o : Option Object) → read_named r u id ≡ o → find_or causes.NotFound (option_map Some o) ≡ Ok found → IsEnd r id
    by None n g = absurd (err_ok causes.NotFound found g)
    by (Some x) n g = (x, (read_there r u (object_named r id) x n).0, subst (λ o. unwrap_or (option_map (is_a r bases.Relationship) o) false ≡ false) (sym (ok_eq (Some x) found g)) k)

-- what a refusal that is none tells
pub record Passes (r : Repository) (u : List ℕ) (cost : ℕ) (call : CreateRelationship) : Type 0 where
  pub made : IsMaking r u cost bases.Relationship call.object call.object.properties
  pub source : (t : List ℕ) → first_given call.object.properties (codes "cmis:sourceId") ≡ Some t → IsEnd r t
  pub target : (t : List ℕ) → first_given call.object.properties (codes "cmis:targetId") ≡ Some t → IsEnd r t

pub passes : (r : Repository) (u : List ℕ) (cost : ℕ) (call : CreateRelationship) → refusal_of_relationship r u cost call (wanted_in r.types call.object.properties) ≡ Ok tt → Passes r u cost call
passes r u cost call h =
    let given = call.object.properties in
    let wanted = wanted_in r.types given in
    let s = then_ok (judge_storage r cost) _ h in
    let a = then_ok (judge_addressed r u call.place) _ s.1 in
    let f = bind_ok (end_at r u (first_given given (codes "cmis:sourceId"))) _ a.1 in
    let g = bind_ok (end_at r u (first_given given (codes "cmis:targetId"))) _ f.2 in
    let p = then_ok (first_cause (unread_cause r u) call.object.policies) _ g.2 in
    let b = find_ok causes.TypeNotFound (type_in r.types wanted.kind) _ p.1 in
    let t = then_ok (first_cause (unknown_type r.types) wanted.secondary) _ b.2 in
    let e = then_ok (judge_ends r u call f.0 g.0) (judge_relationship r call wanted f.0 g.0 b.0) t.1 in
    let e' = refuse_ok causes.Denied (may_not_make r u None) _ e.0 in
    let e'' = refuse_ok causes.WrongKind (has_other_policy r u call.object.policies) _ e'.1 in
    let k = then_ok (judge_type r.types bases.Relationship wanted b.0) _ e.1 in
    let l = then_ok (judge_link r.types call b.0 f.0 g.0) (judge_request wanted call.object given) k.1 in
    let n = refused_not causes.EndKind (is_relationship r f.0 || is_relationship r g.0) e''.1 in
    record {
      made = record {
        room = room_of r cost s.0;
        kind = b.0;
        def = b.1;
        fits = type_ok r.types bases.Relationship wanted b.0 k.0;
        properties = request_ok wanted call.object given l.1;
        policies = e''.0;
      };
      source = end_is r u (first_given given (codes "cmis:sourceId")) f.0 f.1 (or_left (is_relationship r f.0) (is_relationship r g.0) n);
      target = end_is r u (first_given given (codes "cmis:targetId")) g.0 g.1 (or_right (is_relationship r f.0) (is_relationship r g.0) n);
    }

module _ (r : Repository) (u : List ℕ) (m : Moment) (cost : ℕ) (call : CreateRelationship) (w : IsWellFormed r) (p : Passes r u cost call) where
  abbrev x : Object
  x = new_object r u m call.object.properties

  has_ends : HasEnds r x
  has_ends =
      let given = call.object.properties in
      let wanted = wanted_in r.types given in
      let right = first_none (given_cause calls.Create wanted.defs) given (then_ok (first_cause (given_cause calls.Create wanted.defs) given) (first_cause (missing_cause calls.Create [] given) wanted.defs) p.made.properties).0 in
      All-append (IsEnd r) (texts_of (value_in x.values (codes "cmis:sourceId"))) (texts_of (value_in x.values (codes "cmis:targetId")))
      (ends_kept (IsEnd r) wanted.defs given (codes "cmis:sourceId") (one_end r.types (codes "cmis:sourceId") wanted.kind wanted.secondary w.types w.defs refl) right p.source)
      (ends_kept (IsEnd r) wanted.defs given (codes "cmis:targetId") (one_end r.types (codes "cmis:targetId") wanted.kind wanted.secondary w.types w.defs refl) right p.target)

  pub relationship_keeps : Apart ComesBefore (new_aces u call.object.remove call.object.add) → IsWellFormed (after_making r cost (relationship_of r u m call))
  relationship_keeps ordered =
      let base = base_is r u m cost bases.Relationship call.object call.object.properties w p.made in
      made_keeps r cost m x (new_aces u call.object.remove call.object.add) (policies_in r u call.object.policies) w
      (is_made r u m cost bases.Relationship call.object call.object.properties w p.made (not_both r x bases.Relationship bases.Document refl base) (λ e. has_ends) ordered)
      (not_both r x bases.Relationship bases.Folder refl base)
