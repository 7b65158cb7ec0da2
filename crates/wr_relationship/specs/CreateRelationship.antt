-- createRelationship (CMIS 1.1, section 2.2.4.4): when it is refused, what it makes of the repository, and what it answers.
use Rattle.std.specs.Prelude.{ℕ, nat_lt, Bool, false, ◌&&◌, ◌||◌, not, List, [], ◌∷◌, length, slice_get, Option, Some, None, unwrap_or, option_map, Ok, codes}
use Rattle.cm_base.specs.declared.number.Moment.{Moment}
use Rattle.cm_base.specs.declared.object.Object.{Object}
use Rattle.cm_base.specs.declared.cause.Cause.TheVariants as causes
use Rattle.cm_base.specs.Judged.{Judged, ◌>>=◌, ◌>>◌, refuse, find_or, first_cause}
use Rattle.cm_types.specs.declared.definition.TypeDef.{TypeDef}
use Rattle.cm_types.specs.declared.definition.BaseType.TheVariants as bases
use Rattle.cm_types.specs.declared.given.Given.{Given}
use Rattle.cm_types.specs.Types.{type_in, is_below_any}
use Rattle.cm_types.specs.Properties.{given_texts}
use Rattle.call_parts.specs.declared.replies.ObjectReply.{ObjectReply}
use Rattle.create_parts.specs.declared.writes.CreateRelationship.{CreateRelationship}
use Rattle.create_parts.specs.Weight.{weight_of_create_relationship}
use Rattle.cmis_spec.specs.Repository.{Repository, is_a}
use Rattle.cmis_spec.specs.Access.{read_named}
use Rattle.wr_rules.specs.Rules.{judge_storage, unknown_type, unread_cause, has_other_policy}
use Rattle.wr_rules.specs.Wanted.{Wanted, wanted_in}
use Rattle.wr_object.specs.CreateDocument.{may_not_make}
use Rattle.wr_create.specs.declared.making.NewObject.{NewObject}
use Rattle.wr_create.specs.Making.{judge_addressed, judge_type, is_uncontrollable, judge_request, cost_of_making, made_by, after_making, reply_of_making}

-- ---- words of the call

-- the first text that is given for a property
abbrev pub first_given : List Given → List ℕ → Option (List ℕ)
first_given given property = slice_get (given_texts given property) 0

-- the name of a relationship to which none is given
abbrev pub plain_name : Given
plain_name = record { id = codes "cmis:name"; texts = codes "relationship" ∷ []; several = false }

abbrev pub named_by : Option (List ℕ) → CreateRelationship → CreateRelationship
named_by None call = record call { object = record call.object { properties = plain_name ∷ call.object.properties } }
named_by (Some name) call = call

-- the call with that name where it gives none: the property is absent, or is given as unset
abbrev pub with_name : CreateRelationship → CreateRelationship
with_name call = named_by (first_given call.object.properties (codes "cmis:name")) call

abbrev pub cost_create_relationship : Repository → CreateRelationship → ℕ
cost_create_relationship r call = cost_of_making r (weight_of_create_relationship call) (with_name call).object.properties

-- ---- the ends

-- the object of this id, where one is given; the caller reads it
abbrev pub end_at : Repository → List ℕ → Option (List ℕ) → Judged (Option Object)
end_at r u None = Ok None
end_at r u (Some id) = find_or causes.NotFound (option_map Some (read_named r u id))

-- a relationship has no other one at its ends
abbrev pub is_relationship : Repository → Option Object → Bool
is_relationship r end = unwrap_or (option_map (is_a r bases.Relationship) end) false

-- types are allowed, and neither the type of the end nor an ancestor of it is one of them
abbrev pub bars_end : List TypeDef → List (List ℕ) → Option Object → Bool
bars_end types allowed end = nat_lt 0 (length allowed) && unwrap_or (option_map (λ x. not (is_below_any types x.kind allowed)) end) false

-- ---- the refusal

-- the caller may make relationships, and between these objects one may stand
abbrev pub judge_ends : Repository → List ℕ → CreateRelationship → Option Object → Option Object → Judged (Unit {0})
judge_ends r u call source target = do
  refuse causes.Denied (may_not_make r u None)
  refuse causes.WrongKind (has_other_policy r u call.object.policies)
  refuse causes.EndKind (is_relationship r source || is_relationship r target)

-- the type takes the ends, and lets what is asked be applied to a relationship
abbrev pub judge_link : List TypeDef → CreateRelationship → TypeDef → Option Object → Option Object → Judged (Unit {0})
judge_link types call kind source target = do
  refuse causes.EndType (bars_end types kind.allowed_source_types source || bars_end types kind.allowed_target_types target)
  refuse causes.NotControllable (is_uncontrollable kind call.object)

-- once its ends and its type are found
abbrev pub judge_relationship : Repository → CreateRelationship → Wanted → Option Object → Option Object → TypeDef → Judged (Unit {0})
judge_relationship r call wanted source target kind = do
  judge_type r.types bases.Relationship wanted kind
  judge_link r.types call kind source target
  judge_request wanted call.object call.object.properties

-- of a call with a name, and of what its properties say
abbrev pub refusal_of_relationship : Repository → List ℕ → ℕ → CreateRelationship → Wanted → Judged (Unit {0})
refusal_of_relationship r u cost call wanted = do
  judge_storage r cost
  judge_addressed r u call.place
  source ← end_at r u (first_given call.object.properties (codes "cmis:sourceId"))
  target ← end_at r u (first_given call.object.properties (codes "cmis:targetId"))
  first_cause (unread_cause r u) call.object.policies
  kind ← find_or causes.TypeNotFound (type_in r.types wanted.kind)
  first_cause (unknown_type r.types) wanted.secondary
  judge_ends r u call source target
  judge_relationship r call wanted source target kind

abbrev pub refusal_create_relationship : Repository → List ℕ → ℕ → CreateRelationship → Judged (Unit {0})
refusal_create_relationship r u cost call = refusal_of_relationship r u cost (with_name call) (wanted_in r.types (with_name call).object.properties)

-- ---- the repository after it, and the reply

-- of a call with a name
abbrev pub relationship_of : Repository → List ℕ → Moment → CreateRelationship → NewObject
relationship_of r u m call = made_by r u m call.object call.object.properties None

abbrev pub after_create_relationship : Repository → List ℕ → Moment → ℕ → CreateRelationship → Repository
after_create_relationship r u m cost call = after_making r cost (relationship_of r u m (with_name call))

abbrev pub acknowledgement_create_relationship : Repository → List ℕ → Moment → ℕ → CreateRelationship → ObjectReply
acknowledgement_create_relationship r u m cost call = reply_of_making r cost u call.succinct (relationship_of r u m (with_name call))
