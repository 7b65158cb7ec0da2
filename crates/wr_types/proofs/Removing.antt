-- A deleteType that is not refused removes a type that nothing is of, and keeps the repository well formed.
use Rattle.std.specs.Prelude.{◌≡◌, ℕ, ◌+◌, ◌<◌, ◌^◌, false, not, List, Some, Ok, is_none}
use Rattle.std.specs.List.{list_any}
use Rattle.std.proofs.Common.{sym}
use Rattle.std.proofs.lemmas.List.Elements.{All-weaker}
use Rattle.cm_base.specs.declared.cause.Cause.TheVariants as causes
use Rattle.cm_base.specs.Judged.{refuse}
use Rattle.cm_types.specs.declared.definition.TypeDef.{TypeDef}
use Rattle.cm_types.specs.declared.definition.BaseType.TheVariants as bases
use Rattle.cm_types.specs.Types.{type_in, is_of_base, is_child_type}
use Rattle.cm_types.specs.Changes.{without_type, judge_removal_of, judge_removed_type, judge_without_type}
use Rattle.cmis_spec.specs.Repository.{Repository, is_a, is_of_type}
use Rattle.cmis_spec.specs.Changes.{stepped}
use Rattle.cmis_spec.specs.Well.{IsWellFormed}
use Rattle.cmis_laws.proofs.Passed.{then_ok, refuse_ok, refused_not}
use Rattle.cmis_laws.proofs.Steps.{HasRoom, step_keeps}
use Rattle.type_change_parts.specs.declared.writes.DeleteType.{DeleteType}
use Rattle.type_laws.proofs.Retyped.{IsRetyped}
use Rattle.type_laws.proofs.Deleted.{deleted_retypes, deleted_keeps}
use Rattle.wr_rules.specs.Rules.{judge_storage}
use Rattle.wr_rules.proofs.Room.{room_of, fits_of}
use Rattle.wr_types.specs.Retyped.{may_not_type, retyped}
use Rattle.wr_types.specs.DeleteType.{refusal_delete_type}
use Rattle.wr_types.proofs.Lines.{ok_same, lines_passed, line_found, line_bound}
use Rattle.wr_types.proofs.Staying.{FoldersStay}

-- what the list of types judges
record MayRemove (types : List TypeDef) (id : List ℕ) : Type 0 where
  old : TypeDef
  there : type_in types id ≡ Some old
  may : not old.mutability.delete ≡ false
  childless : list_any (is_child_type old.id) types ≡ false

may_remove : (types : List TypeDef) (id : List ℕ) (others : List TypeDef) → judge_without_type types id ≡ Ok others → MayRemove types id
may_remove types id others h =
    let removed = lines_passed (judge_removed_type types id) _ others h in
    let found = line_found causes.TypeNotFound (type_in types id) (judge_removal_of types) tt removed.0 in
    let fixed = refuse_ok causes.TypeFixed (not found.0.mutability.delete) _ found.2 in
    record { old = found.0; there = found.1; may = fixed.0; childless = refused_not causes.TypeInUse (list_any (is_child_type found.0.id) types) fixed.1 }

-- the types that are left
pub types_are : (types : List TypeDef) (id : List ℕ) (others : List TypeDef) → judge_without_type types id ≡ Ok others → others ≡ without_type types id
types_are types id others h = sym (ok_same (without_type types id) others (lines_passed (judge_removed_type types id) _ others h).1)

-- ---- a call that is not refused

record IsFree (r : Repository) (id : List ℕ) : Type 0 where
  may : MayRemove r.types id
  unused : list_any (is_of_type id) r.objects ≡ false

judged : (r : Repository) (u : List ℕ) (cost : ℕ) (call : DeleteType) → refusal_delete_type r u cost call ≡ Ok tt → IsFree r call.type_id
judged r u cost call h =
    let paid = then_ok (judge_storage r cost) _ h in
    let named = refuse_ok causes.TypeNotFound (is_none (type_in r.types call.type_id)) _ paid.1 in
    let allowed = refuse_ok causes.Denied (may_not_type r u) _ named.1 in
    let made = line_bound (judge_without_type r.types call.type_id) (λ _. refuse causes.TypeInUse (list_any (is_of_type call.type_id) r.objects)) tt allowed.1 in
    record { may = may_remove r.types call.type_id made.0 made.1; unused = refused_not causes.TypeInUse (list_any (is_of_type call.type_id) r.objects) made.2 }

has_room : (r : Repository) (u : List ℕ) (cost : ℕ) (call : DeleteType) → refusal_delete_type r u cost call ≡ Ok tt → HasRoom r cost
has_room r u cost call h = room_of r cost (then_ok (judge_storage r cost) _ h).0

pub fits : (r : Repository) (u : List ℕ) (cost : ℕ) (call : DeleteType) → IsWellFormed r → refusal_delete_type r u cost call ≡ Ok tt → (r.step + 1 < 2 ^ 64) × (r.cost + cost < 2 ^ 64)
fits r u cost call w h = fits_of r cost w (has_room r u cost call h)

-- the same objects are folders
pub folders_stay : (r : Repository) (u : List ℕ) (cost : ℕ) (call : DeleteType) → IsWellFormed r → refusal_delete_type r u cost call ≡ Ok tt → FoldersStay r (without_type r.types call.type_id)
folders_stay r u cost call w h =
    let f = judged r u cost call h in
    let others = without_type r.types call.type_id in
    All-weaker (IsRetyped r others) (λ x. is_of_base others bases.Folder x.kind ≡ is_a r bases.Folder x) (λ x t. t.base bases.Folder) r.objects
    (deleted_retypes r call.type_id f.may.old w f.may.there f.may.may f.may.childless f.unused)

pub well_after : (r : Repository) (u : List ℕ) (cost : ℕ) (call : DeleteType) → IsWellFormed r → refusal_delete_type r u cost call ≡ Ok tt → IsWellFormed (retyped r (without_type r.types call.type_id) cost)
well_after r u cost call w h =
    let f = judged r u cost call h in
    deleted_keeps (stepped r cost) call.type_id f.may.old (step_keeps r cost w (has_room r u cost call h)) f.may.there f.may.may f.may.childless f.unused
