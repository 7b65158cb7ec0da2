-- createFolder keeps what is well formed.
use Rattle.std.specs.Prelude.{◌≡◌, ℕ, ◌+◌, ◌≤◌, Bool, true, false, not, ◌||◌, List, [], ◌∷◌, map, filter, filter_map, fold, All, Option, Some, None, Ok, is_some, option_map, unwrap_or, nat_le, bytes_eq, codes, if◌then◌else◌}
use Rattle.std.specs.List.{list_any}
use Rattle.std.proofs.Common.{refl, sym, ap, subst, ◌∙◌, arith}
use Rattle.std.proofs.lemmas.Bool.{both_ways}
use Rattle.std.proofs.lemmas.List.Elements.{All-nil, All-cons, All-head, All-tail, All-append, All-filter, All-map}
use Rattle.core.specs.List.{cons_option}
use Rattle.core.specs.Ordering.{is_lt, is_gt}
use Rattle.cm_base.specs.declared.number.Moment.{Moment}
use Rattle.cm_base.specs.declared.object.Object.{Object}
use Rattle.cm_base.specs.declared.access.Ace.{Ace}
use Rattle.cm_base.specs.declared.access.Level.{Level}
use Rattle.cm_base.specs.declared.access.Level.TheVariants as levels
use Rattle.cm_base.specs.declared.cause.Cause.TheVariants as causes
use Rattle.cm_base.specs.Judged.{first_cause}
use Rattle.cm_base.specs.Names.{is_name}
use Rattle.cm_types.specs.declared.definition.TypeDef.{TypeDef}
use Rattle.cm_types.specs.declared.definition.BaseType.TheVariants as bases
use Rattle.cm_types.specs.declared.given.PropertyCall.TheVariants as calls
use Rattle.cm_types.specs.Types.{type_in, same_base}
use Rattle.cm_types.specs.Properties.{judge_properties}
use Rattle.call_parts.specs.declared.writes.AceRequest.{AceRequest}
use Rattle.call_parts.specs.declared.writes.CreateFolder.{CreateFolder}
use Rattle.cm_acl.specs.Acl.{level_named, ace_order, with_ace, without_aces, same_ace}
use Rattle.cm_see.specs.Addressed.{addressed}
use Rattle.cmis_spec.specs.Repository.{Repository, root, most_levels, object_at, is_a, depth_of, is_taken, new_number}
use Rattle.cmis_spec.specs.Access.{rank, lacks, read_named, object_named}
use Rattle.cmis_spec.specs.Well.{Apart, ComesBefore, IsTyped, IsBaseAt, IsWellFormed}
use Rattle.cmis_laws.proofs.Lists.{none_some}
use Rattle.cmis_laws.proofs.Made.{folder_keeps}
use Rattle.cmis_laws.proofs.Steps.{HasRoom}
use Rattle.wr_rules.specs.Rules.{judge_storage, distinct, name_in, type_id_in, secondary_in, unknown_type, has_other_secondary, bars_child, unread_cause, read_all, has_other_policy, policies_in, has_unknown_permission, aces_of, aces_in, new_aces}
use Rattle.cmis_laws.proofs.Kept.{kept_new}
use Rattle.cmis_laws.proofs.Once.{owns_new}
use Rattle.cmis_laws.proofs.Passed.{refused_not, then_ok, refuse_ok, find_ok, first_none, not_false, or_left, or_right}
use Rattle.wr_rules.specs.Wanted.{wanted_in}
use Rattle.wr_rules.proofs.Room.{room_of}
use Rattle.wr_rules.proofs.Known.{below_secondary}
use Rattle.wr_rules.proofs.Found.{addressed_there, read_there, named_there}
use Rattle.wr_object.specs.CreateFolder.{folder_props, judge_kinds, judge_place, refusal_create_folder, folder_made, after_create_folder_in, after_create_folder}

-- ---- what a refusal that is none tells

pub record Passes (r : Repository) (u : List ℕ) (cost : ℕ) (call : CreateFolder) : Type 0 where
  pub room : HasRoom r cost
  pub parent : Object
  pub at : addressed r u call.place ≡ Some parent
  pub def : TypeDef
  pub kind : type_in r.types (type_id_in call.properties) ≡ Some def
  pub known : All (λ id. unknown_type r.types id ≡ None) (secondary_in call.properties)
  pub kinds : not (is_a r bases.Folder parent) || has_other_policy r u call.policies ≡ false
  pub base : not (same_base bases.Folder def.base) || has_other_secondary r.types (secondary_in call.properties) ≡ false
  pub depth : nat_le most_levels (depth_of r parent.id) ≡ false
  pub properties : judge_properties calls.Create (folder_props r.types call) [] call.properties ≡ Ok tt
  pub free : is_taken r parent.id (new_number r) (name_in call.properties) ≡ false

pub passes : (r : Repository) (u : List ℕ) (m : Moment) (cost : ℕ) (call : CreateFolder) → refusal_create_folder r u m cost call ≡ Ok tt → Passes r u cost call
passes r u m cost call h =
    let wanted = wanted_in r.types call.properties in
    let s = then_ok (judge_storage r cost) _ h in
    let a = find_ok causes.NotFound (addressed r u call.place) _ s.1 in
    let p = then_ok (first_cause (unread_cause r u) call.policies) _ a.2 in
    let b = find_ok causes.TypeNotFound (type_in r.types wanted.kind) _ p.1 in
    let t = then_ok (first_cause (unknown_type r.types) wanted.secondary) _ b.2 in
    let c = then_ok (judge_kinds r u call.policies wanted.secondary a.0 b.0) _ t.1 in
    let d = refuse_ok causes.Denied (lacks r u levels.Write a.0) _ c.0 in
    let e = refuse_ok causes.WrongKind (not (is_a r bases.Folder a.0) || has_other_policy r u call.policies) _ d.1 in
    let f = refuse_ok causes.TypeKind (not (same_base bases.Folder b.0.base) || has_other_secondary r.types wanted.secondary) _ e.1 in
    let g = then_ok (judge_place r call a.0 b.0) _ c.1 in
    let i = refuse_ok causes.ChildType (bars_child r a.0 b.0.id) _ g.0 in
    let j = refuse_ok causes.Deep (nat_le most_levels (depth_of r a.0.id)) _ i.1 in
    let k = then_ok (judge_properties calls.Create wanted.defs [] call.properties) _ g.1 in
    let l = refuse_ok causes.Permission (has_unknown_permission call.remove || has_unknown_permission call.add) _ k.1 in
    let n = refuse_ok causes.BadName (not (is_name wanted.name)) _ l.1 in
    record {
      room = room_of r cost s.0;
      parent = a.0;
      at = a.1;
      def = b.0;
      kind = b.1;
      known = first_none (unknown_type r.types) wanted.secondary t.0;
      kinds = e.0;
      base = f.0;
      depth = j.0;
      properties = k.0;
      free = refused_not causes.NameTaken (is_taken r a.0.id (new_number r) wanted.name) n.1;
    }

-- ---- the access list permits something in each entry

abbrev Permits : Ace → Type 0
Permits a = 1 ≤ rank a.level

level_permits : (p : List ℕ) (l : Level) → level_named p ≡ Some l → 1 ≤ rank l
level_permits p levels.Read h = omega arith
level_permits p levels.Write h = omega arith
level_permits p levels.All h = omega arith
level_permits p levels.None h = absurd (never (bytes_eq p (codes "cmis:read")) (bytes_eq p (codes "cmis:write")) (bytes_eq p (codes "cmis:all")) h)
  where
    is_none_level : Option Level → Bool
    is_none_level (Some levels.None) = true
    is_none_level _ = false

    never : (a b c : Bool) → (if a then Some levels.Read else if b then Some levels.Write else if c then Some levels.All else None) ≡ Some levels.None → ⊥
    never true b c h = both_ways false refl (ap is_none_level h)
    never false true c h = both_ways false refl (ap is_none_level h)
    never false false true h = both_ways false refl (ap is_none_level h)
    never false false false h = none_some levels.None h

levels_permit : (ps : List (List ℕ)) → All (λ l. 1 ≤ rank l) (filter_map level_named ps)
levels_permit [] = All-nil (λ l. 1 ≤ rank l)
levels_permit (p ∷ ps) = elim (level_named p) as (λ o. level_named p ≡ o → All (λ l. 1 ≤ rank l) (cons_option o (filter_map level_named ps))) [
  | None ↦ λ e. levels_permit ps
  | Some l ↦ λ e. All-cons (λ l. 1 ≤ rank l) l (filter_map level_named ps) (level_permits p l e) (levels_permit ps)
] refl

asked_permit : (asked : List AceRequest) → All Permits (aces_in asked)
asked_permit [] = All-nil Permits
asked_permit (a ∷ as') = All-append Permits (aces_of a) (aces_in as') (All-map Permits (λ level. record { principal = a.principal; level = level }) (filter_map level_named a.permissions) (levels_permit a.permissions)) (asked_permit as')

with_permits : (aces : List Ace) (a : Ace) → All Permits aces → Permits a → All Permits (with_ace aces a)
with_permits aces a all p = All-append Permits (filter (λ b. is_lt (ace_order b a)) aces) (a ∷ filter (λ b. is_gt (ace_order b a)) aces)
    (All-filter (λ b. is_lt (ace_order b a)) Permits aces all) (All-cons Permits a (filter (λ b. is_gt (ace_order b a)) aces) p (All-filter (λ b. is_gt (ace_order b a)) Permits aces all))

added_permit : (aces add : List Ace) → All Permits aces → All Permits add → All Permits (fold with_ace aces add)
added_permit aces [] all more = all
added_permit aces (a ∷ add) all more = added_permit (with_ace aces a) add (with_permits aces a all (All-head Permits a add more)) (All-tail Permits a add more)

pub new_permit : (u : List ℕ) (remove add : List AceRequest) → All Permits (new_aces u remove add)
new_permit u remove add =
    let own : Ace = record { principal = u; level = levels.All } in
    added_permit (without_aces (aces_in remove) (own ∷ [])) (aces_in add)
    (All-filter (λ a. not (list_any (same_ace a) (aces_in remove))) Permits (own ∷ []) (All-cons Permits own [] (omega arith) (All-nil Permits)))
    (asked_permit add)

-- ---- the policies are policies

policy_at : (r : Repository) (u : List ℕ) (id : List ℕ) (x : Object) → read_named r u id ≡ Some x → not (is_a r bases.Policy x) ≡ false → IsBaseAt r bases.Policy x.id
policy_at r u id x h k = (x, named_there r id x (read_there r u (object_named r id) x h).0, not_false (is_a r bases.Policy x) k)

-- what is asked for of the texts holds of each one where it stands first
pub distinct_all : (P : List ℕ → Type 0) (ids : List (List ℕ)) → All P ids → All P (distinct ids)
distinct_all P [] all = All-nil P
distinct_all P (id ∷ ids) all = All-cons P id (filter (λ s. not (bytes_eq s id)) (distinct ids)) (All-head P id ids all)
    (All-filter (λ s. not (bytes_eq s id)) P (distinct ids) (distinct_all P ids (All-tail P id ids all)))

abbrev pub IsGood : Repository → List ℕ → List ℕ → Type 0
IsGood r u id = (x : Object) → read_named r u id ≡ Some x → IsBaseAt r bases.Policy x.id

pub good_all : (r : Repository) (u : List ℕ) (ids : List (List ℕ)) → has_other_policy r u ids ≡ false → All (IsGood r u) ids
good_all r u [] h = All-nil (IsGood r u)
good_all r u (id ∷ ids) h = elim (read_named r u id) as (λ o. read_named r u id ≡ o → list_any (λ x. not (is_a r bases.Policy x)) (cons_option o (read_all r u ids)) ≡ false → All (IsGood r u) (id ∷ ids)) [
  | None ↦ λ e k. All-cons (IsGood r u) id ids (λ x f. absurd (none_some x (sym e ∙ f))) (good_all r u ids k)
  | Some y ↦ λ e k. All-cons (IsGood r u) id ids
      (λ x f. policy_at r u id x f (or_left (not (is_a r bases.Policy x)) (list_any (λ x. not (is_a r bases.Policy x)) (read_all r u ids)) (subst (λ z. not (is_a r bases.Policy z) || list_any (λ x. not (is_a r bases.Policy x)) (read_all r u ids) ≡ false) (same_found y x (sym e ∙ f)) k)))
      (good_all r u ids (or_right (not (is_a r bases.Policy y)) (list_any (λ x. not (is_a r bases.Policy x)) (read_all r u ids)) k))
] refl h
  where
    same_found : (y x : Object) → Some y ≡ Some x → y ≡ x
    same_found y x h = ap (λ o. elim o [ None ↦ y | Some z ↦ z ]) h

pub named_all : (r : Repository) (u : List ℕ) (ids : List (List ℕ)) → All (IsGood r u) ids → All (IsBaseAt r bases.Policy) (map (λ (x : Object). x.id) (read_all r u ids))
named_all r u [] all = All-nil (IsBaseAt r bases.Policy)
named_all r u (id ∷ ids) all = elim (read_named r u id) as (λ o. read_named r u id ≡ o → All (IsBaseAt r bases.Policy) (map (λ (x : Object). x.id) (cons_option o (read_all r u ids)))) [
  | None ↦ λ e. named_all r u ids (All-tail (IsGood r u) id ids all)
  | Some x ↦ λ e. All-cons (IsBaseAt r bases.Policy) x.id (map (λ (x : Object). x.id) (read_all r u ids)) (All-head (IsGood r u) id ids all x e) (named_all r u ids (All-tail (IsGood r u) id ids all))
] refl

-- ---- all

-- the access list of the new folder in its order, as the call that makes it says
pub keeps_create_folder : (r : Repository) (u : List ℕ) (m : Moment) (cost : ℕ) (call : CreateFolder) → IsWellFormed r → refusal_create_folder r u m cost call ≡ Ok tt
    → Apart ComesBefore (new_aces u call.remove call.add) → IsWellFormed (after_create_folder r u m cost call)
keeps_create_folder r u m cost call w h ordered =
    let p = passes r u m cost call h in
    let x = folder_made r u m call in
    let there : object_at r p.parent.id ≡ Some p.parent = addressed_there r u call.place p.parent w.numbers p.at in
    let typed : IsTyped r.types x = (ap is_some p.kind, below_secondary r.types (secondary_in call.properties) (or_right (not (same_base bases.Folder p.def.base)) (has_other_secondary r.types (secondary_in call.properties)) p.base)) in
    let policies_ok = distinct_all (IsGood r u) call.policies (good_all r u call.policies (or_right (not (is_a r bases.Folder p.parent)) (has_other_policy r u call.policies) p.kinds)) in
    subst (λ f. IsWellFormed (after_create_folder_in r u m cost call f)) (sym (ap (λ o. unwrap_or (option_map (λ f. f.id) o) root) p.at))
    (folder_keeps r cost m p.parent.id x (new_aces u call.remove call.add) (policies_in r u call.policies) w (record {
      number = refl;
      alone = refl;
      name = name_in call.properties;
      named = refl;
      base = rw p.kind (not_false (same_base bases.Folder p.def.base) (or_left (not (same_base bases.Folder p.def.base)) (has_other_secondary r.types (secondary_in call.properties)) p.base));
      typed = typed;
      kept = kept_new r (type_id_in call.properties) (secondary_in call.properties) call.properties x w.defs p.properties refl;
      owned = owns_new r.types call.properties x w.types typed refl;
      token = omega arith;
      listed = (ordered, new_permit u call.remove call.add);
      applied = named_all r u (distinct call.policies) policies_ok;
      below = (p.parent, there, not_false (is_a r bases.Folder p.parent) (or_left (not (is_a r bases.Folder p.parent)) (has_other_policy r u call.policies) p.kinds));
      depth = p.depth;
      free = p.free;
      room = p.room;
    }))
