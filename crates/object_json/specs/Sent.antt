-- What is sent of a reply.
use Rattle.std.specs.Prelude.{ℕ, List, [], codes, Some}
use Rattle.cm_base.specs.declared.shown.Shown.{Shown}

-- what is sent of a text of JSON that was made at this step
abbrev pub shown_json : ℕ → List ℕ → ℕ → Shown
shown_json status text step = record { status = status; kind = codes "application/json"; body = text; number = Some step }

-- what is sent of a removal
abbrev pub shown_nothing : ℕ → Shown
shown_nothing step = record { status = 200; kind = []; body = []; number = Some step }
