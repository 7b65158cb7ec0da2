-- A createType that is not refused makes a type below a parent that is there, and keeps the repository well formed.
use Rattle.std.specs.Prelude.{◌≡◌, ℕ, ◌+◌, ◌<◌, ◌^◌, false, not, List, Some, Ok, option_and_then, unwrap_or}
use Rattle.std.proofs.Common.{refl, sym, ap, subst, ◌∙◌}
use Rattle.std.proofs.lemmas.List.Elements.{All-weaker}
use Rattle.std.proofs.lemmas.Slice.Eq.{bytes_eq-Decides}
use Rattle.cm_base.specs.declared.cause.Cause.TheVariants as causes
use Rattle.cm_types.specs.declared.definition.TypeDef.{TypeDef}
use Rattle.cm_types.specs.declared.definition.BaseType.TheVariants as bases
use Rattle.cm_types.specs.declared.request.TypeRequest.{TypeRequest}
use Rattle.cm_types.specs.Types.{type_in, is_of_base}
use Rattle.cm_types.specs.Changes.{lacks_parent, is_taken, breaks_type_rule, made_type, placed_type, judge_below, judge_new_type, judge_with_type}
use Rattle.cmis_spec.specs.Repository.{Repository, is_a}
use Rattle.cmis_spec.specs.Changes.{stepped}
use Rattle.cmis_spec.specs.Well.{IsWellFormed}
use Rattle.cmis_laws.proofs.Passed.{then_ok, refuse_ok}
use Rattle.cmis_laws.proofs.Steps.{HasRoom, step_keeps}
use Rattle.type_change_parts.specs.declared.writes.CreateType.{CreateType}
use Rattle.type_laws.proofs.Retyped.{IsRetyped}
use Rattle.type_laws.proofs.Created.{created_retypes, created_keeps}
use Rattle.type_laws.proofs.Placing.{found_placed}
use Rattle.wr_rules.specs.Rules.{judge_storage}
use Rattle.wr_rules.proofs.Room.{room_of, fits_of}
use Rattle.wr_types.specs.Retyped.{may_not_type, retyped, no_type}
use Rattle.wr_types.specs.CreateType.{refusal_create_type, new_type}
use Rattle.wr_types.proofs.Lines.{ok_same, line_passed, line_found, line_bound}
use Rattle.wr_types.proofs.Staying.{FoldersStay}

-- what the list of types judges
record MayMake (types : List TypeDef) (q : TypeRequest) (others : List TypeDef) : Type 0 where
  parent : TypeDef
  there : option_and_then (type_in types) q.parent ≡ Some parent
  untaken : is_taken types q ≡ false
  rule : breaks_type_rule types parent q ≡ false
  are : placed_type (made_type parent q) types ≡ others

may_make : (types : List TypeDef) (q : TypeRequest) (others : List TypeDef) → judge_with_type types q ≡ Ok others → MayMake types q others
may_make types q others h =
    let made = line_bound (judge_new_type types q) (λ t. Ok (placed_type t types)) others h in
    let named = line_passed causes.TypeNotFound (lacks_parent types q) _ made.0 made.1 in
    let taken = line_passed causes.TypeTaken (is_taken types q) _ made.0 named.1 in
    let found = line_found causes.TypeRule (option_and_then (type_in types) q.parent) (λ p. judge_below types p q) made.0 taken.1 in
    let fixed = line_passed causes.TypeFixed (not found.0.mutability.create) _ made.0 found.2 in
    let ruled = line_passed causes.TypeRule (breaks_type_rule types found.0 q) _ made.0 fixed.1 in
    record {
      parent = found.0;
      there = found.1;
      untaken = taken.0;
      rule = ruled.0;
      are = ap (λ t. placed_type t types) (ok_same (made_type found.0 q) made.0 ruled.1) ∙ ok_same (placed_type made.0 types) others made.2;
    }

new_is : (types : List TypeDef) (q : TypeRequest) (others : List TypeDef) (m : MayMake types q others) → new_type types q ≡ made_type m.parent q
new_is types q others m = ap (λ o. made_type (unwrap_or o no_type) q) m.there

-- the types that are made
pub types_are : (types : List TypeDef) (q : TypeRequest) (others : List TypeDef) → judge_with_type types q ≡ Ok others → others ≡ placed_type (new_type types q) types
types_are types q others h = let m = may_make types q others h in sym (ap (λ t. placed_type t types) (new_is types q others m) ∙ m.are)

-- ---- a call that is not refused

judged : (r : Repository) (u : List ℕ) (cost : ℕ) (call : CreateType) → refusal_create_type r u cost call ≡ Ok tt → (others : List TypeDef) × (judge_with_type r.types call.definition ≡ Ok others)
judged r u cost call h =
    let paid = then_ok (judge_storage r cost) _ h in
    let named = refuse_ok causes.TypeNotFound (lacks_parent r.types call.definition) _ paid.1 in
    let allowed = refuse_ok causes.Denied (may_not_type r u) _ named.1 in
    let made = line_bound (judge_with_type r.types call.definition) (λ _. Ok tt) tt allowed.1 in
    (made.0, made.1)

has_room : (r : Repository) (u : List ℕ) (cost : ℕ) (call : CreateType) → refusal_create_type r u cost call ≡ Ok tt → HasRoom r cost
has_room r u cost call h = room_of r cost (then_ok (judge_storage r cost) _ h).0

pub fits : (r : Repository) (u : List ℕ) (cost : ℕ) (call : CreateType) → IsWellFormed r → refusal_create_type r u cost call ≡ Ok tt → (r.step + 1 < 2 ^ 64) × (r.cost + cost < 2 ^ 64)
fits r u cost call w h = fits_of r cost w (has_room r u cost call h)

-- the same objects are folders
pub folders_stay : (r : Repository) (u : List ℕ) (cost : ℕ) (call : CreateType) → IsWellFormed r → refusal_create_type r u cost call ≡ Ok tt → FoldersStay r (placed_type (new_type r.types call.definition) r.types)
folders_stay r u cost call w h =
    let j = judged r u cost call h in
    let m = may_make r.types call.definition j.0 j.1 in
    let others = placed_type (made_type m.parent call.definition) r.types in
    subst (λ t. FoldersStay r (placed_type t r.types)) (sym (new_is r.types call.definition j.0 m))
    (All-weaker (IsRetyped r others) (λ x. is_of_base others bases.Folder x.kind ≡ is_a r bases.Folder x) (λ x t. t.base bases.Folder) r.objects
    (created_retypes r m.parent call.definition w m.untaken m.there m.rule))

pub well_after : (r : Repository) (u : List ℕ) (cost : ℕ) (call : CreateType) → IsWellFormed r → refusal_create_type r u cost call ≡ Ok tt
    → IsWellFormed (retyped r (placed_type (new_type r.types call.definition) r.types) cost)
well_after r u cost call w h =
    let j = judged r u cost call h in
    let m = may_make r.types call.definition j.0 j.1 in
    subst (λ t. IsWellFormed (retyped r (placed_type t r.types) cost)) (sym (new_is r.types call.definition j.0 m))
    (created_keeps (stepped r cost) m.parent call.definition (step_keeps r cost w (has_room r u cost call h)) m.untaken m.there m.rule)

-- the type is found under its id
pub new_there : (types : List TypeDef) (q : TypeRequest) → type_in (placed_type (new_type types q) types) q.id ≡ Some (new_type types q)
new_there types q = found_placed (λ s. s.id) (new_type types q) q.id types ((bytes_eq-Decides q.id q.id).1 refl)
