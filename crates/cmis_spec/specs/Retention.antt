-- Retention and holds (CMIS 1.1, section 2.1.16). The types and properties are the standard's; the rules are this project's own.
use Rattle.std.specs.Prelude.{Bool, true, ◌&&◌, not, if◌then◌else◌, List, ℕ, int_lt, Option, Some, None, unwrap_or, option_map, option_and_then, codes}
use Rattle.std.specs.List.{list_any}
use Rattle.cm_base.specs.declared.number.Moment.{Moment}
use Rattle.cm_base.specs.declared.object.Object.{Object}
use Rattle.cm_base.specs.declared.cause.Cause.{Cause}
use Rattle.cm_base.specs.declared.cause.Cause.TheVariants as causes
use Rattle.cm_base.specs.declared.value.Scalar.{Scalar}
use Rattle.cm_base.specs.declared.value.Scalar.TheVariants.{Time}
use Rattle.cm_base.specs.declared.value.Slot.{Slot}
use Rattle.cm_base.specs.declared.value.Value.{Value}
use Rattle.cm_base.specs.declared.value.Value.TheVariants.{One}
use Rattle.cm_base.specs.Judged.{Judged, ◌>>◌, refuse, judge_by, first_cause}
use Rattle.cm_types.specs.declared.definition.TypeDef.{TypeDef}
use Rattle.cm_types.specs.declared.definition.BaseType.TheVariants as bases
use Rattle.cm_types.specs.Types.{is_below}
use Rattle.cm_types.specs.Properties.{value_in, is_set}
use Rattle.cmis_spec.specs.Repository.{Repository, is_a}
use Rattle.cmis_spec.specs.Documents.{is_working_copy}

-- one of the secondary types is this one, or below it
abbrev pub has_type : List TypeDef → List (List ℕ) → List ℕ → Bool
has_type types secondary id = list_any (λ s. is_below types s id) secondary

-- a version of a document; a working copy is under no retention and no hold
abbrev pub is_document_version : Repository → Object → Bool
is_document_version r x = is_a r bases.Document x && not (is_working_copy r x)

-- ---- holds (section 2.1.16.2)

-- a hold is set on the version
abbrev pub is_under_hold : Repository → Object → Bool
is_under_hold r x =
    is_document_version r x && (has_type r.types x.secondary (codes "cmis:rm_hold") && is_set (value_in x.values (codes "cmis:rm_holdIds")))

-- ---- retention (section 2.1.16.1)

abbrev pub moment_of_scalar : Scalar → Option Moment
moment_of_scalar (Time t) = Some (record { 0 = t })
moment_of_scalar _ = None

abbrev pub moment_of_value : Value → Option Moment
moment_of_value (One s) = moment_of_scalar s
moment_of_value _ = None

-- when the retention that secondary types and values tell of ends
abbrev pub expiration_in : List TypeDef → List (List ℕ) → List Slot → Option Moment
expiration_in types secondary values =
    if has_type types secondary (codes "cmis:rm_clientMgtRetention") then moment_of_value (value_in values (codes "cmis:rm_expirationDate"))
    else None

-- a retention that ends then is not over
abbrev pub is_to_come : Moment → Moment → Bool
is_to_come m expiration = int_lt m.0 expiration.0

-- the moment, if the retention is not over
abbrev pub to_come : Moment → Moment → Option Moment
to_come m expiration = if is_to_come m expiration then Some expiration else None

-- when the retention of the version ends, if it is under one at the moment
abbrev pub retained_until : Repository → Moment → Object → Option Moment
retained_until r m x =
    if is_document_version r x then option_and_then (to_come m) (expiration_in r.types x.secondary x.values) else None

-- ---- what is refused

abbrev pub retained_cause : Repository → Moment → Object → Option Cause
retained_cause r m x = option_map (causes.Retained m) (retained_until r m x)

-- neither contents nor versions go that are under hold, or then under retention at the moment; the first one that is names the expiration
abbrev pub judge_kept : Repository → Moment → List Object → Judged (Unit {0})
judge_kept r m xs = do
  refuse causes.Held (list_any (is_under_hold r) xs)
  first_cause (retained_cause r m) xs

-- secondary types and values under which a retention would end before the expiration, or not be there
abbrev pub ends_before : List TypeDef → List (List ℕ) → List Slot → Moment → Bool
ends_before types secondary values expiration =
    unwrap_or (option_map (λ e. is_to_come e expiration) (expiration_in types secondary values)) true

-- a version under retention that would have these secondary types and values
abbrev pub shortened_cause : Repository → Moment → List (List ℕ) → List Slot → Object → Option Cause
shortened_cause r m secondary values x =
    option_and_then (λ e. if ends_before r.types secondary values e then Some (causes.Shortened m e) else None) (retained_until r m x)

-- no retention is taken away or shortened
abbrev pub judge_retention : Repository → Moment → List (List ℕ) → List Slot → Object → Judged (Unit {0})
judge_retention r m secondary values x = judge_by (shortened_cause r m secondary values x)
