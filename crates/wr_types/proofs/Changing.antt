-- An updateType that is not refused changes a type that is there, and keeps the repository well formed.
use Rattle.std.specs.Prelude.{◌≡◌, ℕ, ◌+◌, ◌<◌, ◌^◌, true, false, not, List, Some, Ok, is_none, unwrap_or, bytes_eq}
use Rattle.std.proofs.Common.{sym, ap, subst, ◌∙◌}
use Rattle.std.proofs.lemmas.List.Elements.{All-weaker}
use Rattle.cm_base.specs.declared.cause.Cause.TheVariants as causes
use Rattle.cm_types.specs.declared.definition.TypeDef.{TypeDef}
use Rattle.cm_types.specs.declared.definition.BaseType.TheVariants as bases
use Rattle.cm_types.specs.declared.request.TypeRequest.{TypeRequest}
use Rattle.cm_types.specs.Types.{type_in, is_of_base}
use Rattle.cm_types.specs.Changes.{breaks_change_rule, changed_type, placed_type, judge_change_of, judge_changed_type, judge_with_change}
use Rattle.cmis_spec.specs.Repository.{Repository, is_a}
use Rattle.cmis_spec.specs.Changes.{stepped}
use Rattle.cmis_spec.specs.Well.{IsWellFormed}
use Rattle.cmis_laws.proofs.Lists.{found_passes}
use Rattle.cmis_laws.proofs.Passed.{then_ok, refuse_ok}
use Rattle.cmis_laws.proofs.Steps.{HasRoom, step_keeps}
use Rattle.type_change_parts.specs.declared.writes.UpdateType.{UpdateType}
use Rattle.type_laws.proofs.Retyped.{IsRetyped}
use Rattle.type_laws.proofs.Changed.{changed_retypes, changed_keeps}
use Rattle.type_laws.proofs.Placing.{found_placed}
use Rattle.wr_rules.specs.Rules.{judge_storage}
use Rattle.wr_rules.proofs.Room.{room_of, fits_of}
use Rattle.wr_types.specs.Retyped.{may_not_type, retyped, no_type}
use Rattle.wr_types.specs.UpdateType.{refusal_update_type, updated_type}
use Rattle.wr_types.proofs.Lines.{ok_same, line_passed, line_found, line_bound}
use Rattle.wr_types.proofs.Staying.{FoldersStay}

-- what the list of types judges
record MayChange (types : List TypeDef) (q : TypeRequest) (others : List TypeDef) : Type 0 where
  old : TypeDef
  there : type_in types q.id ≡ Some old
  may : not old.mutability.update ≡ false
  rule : breaks_change_rule types old q ≡ false
  are : placed_type (changed_type old q) types ≡ others

may_change : (types : List TypeDef) (q : TypeRequest) (others : List TypeDef) → judge_with_change types q ≡ Ok others → MayChange types q others
may_change types q others h =
    let made = line_bound (judge_changed_type types q) (λ t. Ok (placed_type t types)) others h in
    let found = line_found causes.TypeNotFound (type_in types q.id) (λ t. judge_change_of types t q) made.0 made.1 in
    let fixed = line_passed causes.TypeFixed (not found.0.mutability.update) _ made.0 found.2 in
    let ruled = line_passed causes.TypeRule (breaks_change_rule types found.0 q) _ made.0 fixed.1 in
    record {
      old = found.0;
      there = found.1;
      may = fixed.0;
      rule = ruled.0;
      are = ap (λ t. placed_type t types) (ok_same (changed_type found.0 q) made.0 ruled.1) ∙ ok_same (placed_type made.0 types) others made.2;
    }

updated_is : (types : List TypeDef) (q : TypeRequest) (others : List TypeDef) (m : MayChange types q others) → updated_type types q ≡ changed_type m.old q
updated_is types q others m = ap (λ o. changed_type (unwrap_or o no_type) q) m.there

-- the types that are made
pub types_are : (types : List TypeDef) (q : TypeRequest) (others : List TypeDef) → judge_with_change types q ≡ Ok others → others ≡ placed_type (updated_type types q) types
types_are types q others h = let m = may_change types q others h in sym (ap (λ t. placed_type t types) (updated_is types q others m) ∙ m.are)

-- ---- a call that is not refused

judged : (r : Repository) (u : List ℕ) (cost : ℕ) (call : UpdateType) → refusal_update_type r u cost call ≡ Ok tt → (others : List TypeDef) × (judge_with_change r.types call.definition ≡ Ok others)
judged r u cost call h =
    let paid = then_ok (judge_storage r cost) _ h in
    let named = refuse_ok causes.TypeNotFound (is_none (type_in r.types call.definition.id)) _ paid.1 in
    let allowed = refuse_ok causes.Denied (may_not_type r u) _ named.1 in
    let made = line_bound (judge_with_change r.types call.definition) (λ _. Ok tt) tt allowed.1 in
    (made.0, made.1)

has_room : (r : Repository) (u : List ℕ) (cost : ℕ) (call : UpdateType) → refusal_update_type r u cost call ≡ Ok tt → HasRoom r cost
has_room r u cost call h = room_of r cost (then_ok (judge_storage r cost) _ h).0

pub fits : (r : Repository) (u : List ℕ) (cost : ℕ) (call : UpdateType) → IsWellFormed r → refusal_update_type r u cost call ≡ Ok tt → (r.step + 1 < 2 ^ 64) × (r.cost + cost < 2 ^ 64)
fits r u cost call w h = fits_of r cost w (has_room r u cost call h)

-- the same objects are folders
pub folders_stay : (r : Repository) (u : List ℕ) (cost : ℕ) (call : UpdateType) → IsWellFormed r → refusal_update_type r u cost call ≡ Ok tt → FoldersStay r (placed_type (updated_type r.types call.definition) r.types)
folders_stay r u cost call w h =
    let j = judged r u cost call h in
    let m = may_change r.types call.definition j.0 j.1 in
    let others = placed_type (changed_type m.old call.definition) r.types in
    subst (λ t. FoldersStay r (placed_type t r.types)) (sym (updated_is r.types call.definition j.0 m))
    (All-weaker (IsRetyped r others) (λ x. is_of_base others bases.Folder x.kind ≡ is_a r bases.Folder x) (λ x t. t.base bases.Folder) r.objects
    (changed_retypes r call.definition m.old w m.there m.may m.rule))

pub well_after : (r : Repository) (u : List ℕ) (cost : ℕ) (call : UpdateType) → IsWellFormed r → refusal_update_type r u cost call ≡ Ok tt
    → IsWellFormed (retyped r (placed_type (updated_type r.types call.definition) r.types) cost)
well_after r u cost call w h =
    let j = judged r u cost call h in
    let m = may_change r.types call.definition j.0 j.1 in
    subst (λ t. IsWellFormed (retyped r (placed_type t r.types) cost)) (sym (updated_is r.types call.definition j.0 m))
    (changed_keeps (stepped r cost) call.definition m.old (step_keeps r cost w (has_room r u cost call h)) m.there m.may m.rule)

-- the type is found under its id
pub updated_there : (r : Repository) (u : List ℕ) (cost : ℕ) (call : UpdateType) → refusal_update_type r u cost call ≡ Ok tt
    → type_in (placed_type (updated_type r.types call.definition) r.types) call.definition.id ≡ Some (updated_type r.types call.definition)
updated_there r u cost call h =
    let j = judged r u cost call h in
    let m = may_change r.types call.definition j.0 j.1 in
    found_placed (λ s. s.id) (updated_type r.types call.definition) call.definition.id r.types
    (subst (λ t. bytes_eq t.id call.definition.id ≡ true) (sym (updated_is r.types call.definition j.0 m)) (found_passes (λ s. bytes_eq s.id call.definition.id) r.types m.old m.there))
