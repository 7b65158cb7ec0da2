-- Delimiter lines (RFC 2046, section 5.1.1): the whole line has the form, and not its beginning alone.
use Rattle.std.specs.Prelude.{ℕ, List, [], ◌∷◌, ◌==◌, Option, Some, None, if◌then◌else◌}
use Rattle.std.specs.List.{list_all}
use Rattle.field_params.specs.Blanks.{is_blank}
use Rattle.form_parts.specs.declared.mark.Mark.{Mark}
use Rattle.form_parts.specs.declared.mark.Mark.TheVariants.{Plain, Open, Last}

-- what stands after a prefix
abbrev pub rest_after : List ℕ → List ℕ → Option (List ℕ)
rest_after [] line = Some line
rest_after (p ∷ ps) [] = None
rest_after (p ∷ ps) (x ∷ xs) = if p == x then rest_after ps xs else None

-- the line is a delimiter if what stands after its boundary is blanks, the last if it is `--` and blanks
abbrev pub mark_of_rest : List ℕ → Mark
mark_of_rest rest = if list_all is_blank rest then Open else elim (rest_after (45 ∷ 45 ∷ []) rest) [
  | None ↦ Plain
  | Some more ↦ if list_all is_blank more then Last else Plain
]

-- what a line is: `--` and the boundary begin each delimiter
abbrev pub mark_of : List ℕ → List ℕ → Mark
mark_of boundary line = elim (rest_after (45 ∷ 45 ∷ []) line) [
  | None ↦ Plain
  | Some named ↦ elim (rest_after boundary named) [
    | None ↦ Plain
    | Some rest ↦ mark_of_rest rest
  ]
]
