-- Each entry of a list permits something, also after the removals and additions of a request.
use Rattle.std.specs.Prelude.{◌≡◌, ℕ, ◌≤◌, Bool, true, false, not, List, [], ◌∷◌, filter, filter_map, fold, All, Option, Some, None, bytes_eq, codes, if◌then◌else◌}
use Rattle.std.specs.List.{list_any}
use Rattle.std.proofs.Common.{refl, ap, arith}
use Rattle.std.proofs.lemmas.Bool.{both_ways}
use Rattle.std.proofs.lemmas.List.Elements.{All-nil, All-cons, All-head, All-tail, All-append, All-filter, All-map}
use Rattle.core.specs.List.{cons_option}
use Rattle.core.specs.Ordering.{is_lt, is_gt}
use Rattle.cm_base.specs.declared.access.Ace.{Ace}
use Rattle.cm_base.specs.declared.access.Level.{Level}
use Rattle.cm_base.specs.declared.access.Level.TheVariants as levels
use Rattle.call_parts.specs.declared.writes.AceRequest.{AceRequest}
use Rattle.cm_acl.specs.Acl.{level_named, ace_order, with_ace, without_aces, changed_aces, same_ace}
use Rattle.cmis_spec.specs.Access.{rank}
use Rattle.cmis_laws.proofs.Lists.{none_some}
use Rattle.wr_rules.specs.Rules.{aces_of, aces_in}

abbrev pub Permits : Ace → Type 0
Permits a = 1 ≤ rank a.level

named_permits : (p : List ℕ) (l : Level) → level_named p ≡ Some l → 1 ≤ rank l
named_permits p levels.Read h = omega arith
named_permits p levels.Write h = omega arith
named_permits p levels.All h = omega arith
named_permits p levels.None h = absurd (never (bytes_eq p (codes "cmis:read")) (bytes_eq p (codes "cmis:write")) (bytes_eq p (codes "cmis:all")) h)
  where
    is_nothing : Option Level → Bool
    is_nothing (Some levels.None) = true
    is_nothing _ = false

    never : (a b c : Bool) → (if a then Some levels.Read else if b then Some levels.Write else if c then Some levels.All else None) ≡ Some levels.None → ⊥
    never true b c h = both_ways false refl (ap is_nothing h)
    never false true c h = both_ways false refl (ap is_nothing h)
    never false false true h = both_ways false refl (ap is_nothing h)
    never false false false h = none_some levels.None h

found_permit : (ps : List (List ℕ)) → All (λ l. 1 ≤ rank l) (filter_map level_named ps)
found_permit [] = All-nil (λ l. 1 ≤ rank l)
found_permit (p ∷ ps) = elim (level_named p) as (λ o. level_named p ≡ o → All (λ l. 1 ≤ rank l) (cons_option o (filter_map level_named ps))) [
  | None ↦ λ e. found_permit ps
  | Some l ↦ λ e. All-cons (λ l. 1 ≤ rank l) l (filter_map level_named ps) (named_permits p l e) (found_permit ps)
] refl

-- what names no permission asks for no entry
asked_permit : (asked : List AceRequest) → All Permits (aces_in asked)
asked_permit [] = All-nil Permits
asked_permit (a ∷ more) =
    All-append Permits (aces_of a) (aces_in more) (All-map Permits (λ level. record { principal = a.principal; level = level }) (filter_map level_named a.permissions) (found_permit a.permissions)) (asked_permit more)

added_permit : (aces add : List Ace) → All Permits aces → All Permits add → All Permits (fold with_ace aces add)
added_permit aces [] all more = all
added_permit aces (a ∷ add) all more = added_permit (with_ace aces a) add
    (All-append Permits (filter (λ b. is_lt (ace_order b a)) aces) (a ∷ filter (λ b. is_gt (ace_order b a)) aces)
    (All-filter (λ b. is_lt (ace_order b a)) Permits aces all)
    (All-cons Permits a (filter (λ b. is_gt (ace_order b a)) aces) (All-head Permits a add more) (All-filter (λ b. is_gt (ace_order b a)) Permits aces all)))
    (All-tail Permits a add more)

pub changed_permit : (aces : List Ace) (remove add : List AceRequest) → All Permits aces → All Permits (changed_aces aces (aces_in remove) (aces_in add))
changed_permit aces remove add all = added_permit (without_aces (aces_in remove) aces) (aces_in add)
    (All-filter (λ a. not (list_any (same_ace a) (aces_in remove))) Permits aces all) (asked_permit add)
