-- removePolicy keeps what is well formed.
use Rattle.std.specs.Prelude.{◌≡◌, ℕ, ◌+◌, ◌<◌, ◌^◌, true, false, not, if◌then◌else◌, List, [], Some, Ok, unwrap_or, option_map}
use Rattle.std.proofs.Common.{sym, ap, subst}
use Rattle.std.proofs.lemmas.List.Elements.{All-filter}
use Rattle.cm_base.specs.declared.number.Oid.{Oid}
use Rattle.cm_base.specs.declared.number.Moment.{Moment}
use Rattle.cm_base.specs.declared.object.Object.{Object}
use Rattle.cm_base.specs.declared.log.ChangeKind.TheVariants as changes
use Rattle.cm_types.specs.declared.definition.BaseType.TheVariants as bases
use Rattle.policy_parts.specs.declared.writes.RemovePolicy.{RemovePolicy}
use Rattle.cm_see.specs.Addressed.{addressed}
use Rattle.cmis_spec.specs.Repository.{Repository}
use Rattle.cmis_spec.specs.Access.{read_named}
use Rattle.cmis_spec.specs.Changes.{stepped, noted}
use Rattle.cmis_spec.specs.Well.{IsBaseAt, IsThere, IsWellFormed}
use Rattle.cmis_laws.proofs.Lists.{by_test}
use Rattle.cmis_laws.proofs.Passed.{then_ok, find_ok}
use Rattle.cmis_laws.proofs.Steps.{HasRoom, step_keeps, note_keeps}
use Rattle.cm_base.specs.declared.cause.Cause.TheVariants as causes
use Rattle.wr_rules.specs.Rules.{judge_storage}
use Rattle.wr_rules.proofs.Room.{room_of, fits_of}
use Rattle.cm_state.specs.Looks.{is_applied}
use Rattle.wr_policy.specs.Applied.{is_pair, without_policy, number_or_root}
use Rattle.wr_policy.specs.RemovePolicy.{refusal_remove_policy, taken_off, after_remove_policy_of, after_remove_policy}

pub has_room : (r : Repository) (u : List ℕ) (cost : ℕ) (call : RemovePolicy) → refusal_remove_policy r u cost call ≡ Ok tt → HasRoom r cost
has_room r u cost call h = room_of r cost (then_ok (judge_storage r cost) _ h).0

-- one more step and its cost stay numbers of 64 bits
pub room_for : (r : Repository) (u : List ℕ) (cost : ℕ) (call : RemovePolicy) → IsWellFormed r → refusal_remove_policy r u cost call ≡ Ok tt → (r.step + 1 < 2 ^ 64) × (r.cost + cost < 2 ^ 64)
room_for r u cost call w h = fits_of r cost w (has_room r u cost call h)

pub after_is : (r : Repository) (u : List ℕ) (m : Moment) (cost : ℕ) (call : RemovePolicy) (x : Object) → addressed r u call.place ≡ Some x
    → after_remove_policy r u m cost call ≡ after_remove_policy_of r u m cost call x
after_is r u m cost call x at = ap (λ o. unwrap_or (option_map (after_remove_policy_of r u m cost call) o) r) at

-- fewer pairs
pairs_left : (r : Repository) (p n : Oid) → IsWellFormed r → IsWellFormed (without_policy r p n)
pairs_left r p n w = record {
  numbers = w.numbers;
  series_numbers = w.series_numbers;
  firsts = w.firsts;
  renditions = w.renditions;
  root = w.root;
  ways = w.ways;
  one_parent = w.one_parent;
  pairs = w.pairs;
  names = w.names;
  documents = w.documents;
  series = w.series;
  plain = w.plain;
  own_names = w.own_names;
  relationships = w.relationships;
  policies = All-filter (λ a. not (is_pair p n a)) (λ a. IsBaseAt r bases.Policy a.policy × IsThere r a.object) r.applied w.policies;
  access = w.access;
  listed = w.listed;
  contents = w.contents;
  sizes = w.sizes;
  typed = w.typed;
  types = w.types;
  defs = w.defs;
  kept = w.kept;
  own_values = w.own_values;
  groups = w.groups;
  bounds = w.bounds;
  tokens = w.tokens;
  labels = w.labels;
}

on_it : (r : Repository) (m : Moment) (cost : ℕ) (p n : Oid) → is_applied r p n ≡ true → taken_off r m cost p n ≡ noted (stepped (without_policy r p n) cost) changes.Updated n m []
on_it r m cost p n e = ap (λ b. if b then noted (stepped (without_policy r p n) cost) changes.Updated n m [] else stepped r cost) e

not_on_it : (r : Repository) (m : Moment) (cost : ℕ) (p n : Oid) → is_applied r p n ≡ false → taken_off r m cost p n ≡ stepped r cost
not_on_it r m cost p n e = ap (λ b. if b then noted (stepped (without_policy r p n) cost) changes.Updated n m [] else stepped r cost) e

off_well : (r : Repository) (m : Moment) (cost : ℕ) (p n : Oid) → IsWellFormed r → HasRoom r cost → IsWellFormed (taken_off r m cost p n)
off_well r m cost p n w room = by_test (is_applied r p n)
    (λ e. subst IsWellFormed (sym (on_it r m cost p n e))
    (note_keeps (stepped (without_policy r p n) cost) changes.Updated n m []
    (step_keeps (without_policy r p n) cost (pairs_left r p n w) (record { steps = room.steps; bytes = room.bytes }))))
    (λ e. subst IsWellFormed (sym (not_on_it r m cost p n e)) (step_keeps r cost w room))

pub keeps_remove : (r : Repository) (u : List ℕ) (m : Moment) (cost : ℕ) (call : RemovePolicy) → IsWellFormed r → refusal_remove_policy r u cost call ≡ Ok tt → IsWellFormed (after_remove_policy r u m cost call)
keeps_remove r u m cost call w h =
    let a = find_ok causes.NotFound (addressed r u call.place) _ (then_ok (judge_storage r cost) _ h).1 in
    subst IsWellFormed (sym (after_is r u m cost call a.0 a.1)) (off_well r m cost (number_or_root (read_named r u call.policy)) a.0.id w (has_room r u cost call h))
