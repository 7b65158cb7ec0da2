-- The step that a request names: the repository's answer is to be made at this step or a later one.
use Rattle.std.specs.Prelude.{ℕ, List, [], ◌∷◌, codes, Ok, Err}
use Rattle.cm_base.specs.Decimals.{decimal_u64}
use Rattle.cm_base.specs.Judged.{Judged, find_or}
use Rattle.cm_base.specs.declared.cause.Cause.TheVariants.{BadArgument}
use Rattle.http_grammar.specs.Request.{Head}
use Rattle.http_grammar.specs.Fields.{values_named}

-- by the values of CMIS-Step: 0 without one, and else there is one, which is a decimal number
abbrev pub by_steps : List (List ℕ) → Judged ℕ
by_steps [] = Ok 0
by_steps (value ∷ []) = find_or (BadArgument (codes "CMIS-Step")) (decimal_u64 value)
by_steps (value ∷ other ∷ values) = Err (BadArgument (codes "CMIS-Step"))

abbrev pub least_of : Head → Judged ℕ
least_of head = by_steps (values_named (codes "cmis-step") head.fields)
