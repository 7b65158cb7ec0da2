-- What is printed of a script: a line for each step, and one for a line that is not valid.
use Rattle.std.specs.Prelude.{ℕ, List, [], ◌∷◌, ◌++◌, map, codes, decimal, Result, Ok, Err}
use Rattle.std.specs.List.{flat_map}
use Rattle.cm_base.specs.declared.exception.Exception.{Exception}
use Rattle.cm_base.specs.Exceptions.{name_of}
use Rattle.desk_core.specs.declared.event.Done.{Done}
use Rattle.desk_core.specs.declared.event.Done.TheVariants.{Entered, Wrote, Looked, Said}
use Rattle.desk_core.specs.declared.event.CoreStop.{CoreStop}
use Rattle.desk_core.specs.declared.event.CoreStop.TheVariants.{Unknown, Known, Refused, Memory}
use Rattle.desk_core.specs.Interleaving.{Rules, World, answers}
use Rattle.schedule_lines.specs.declared.step.Step.{Step}
use Rattle.schedule_run.specs.Events.{Asking, event_of}

-- a blank and a name
abbrev pub spaced : List ℕ → List ℕ
spaced name = codes " " ++ name

-- the line of a session that begins, at version n
abbrev pub entered_line : ℕ → ℕ → List ℕ
entered_line k n = decimal k ++ codes " open at " ++ decimal n ++ codes "\n"

-- the line of an accepted write, and of a look
abbrev pub wrote_line : ℕ → ℕ → List ℕ
wrote_line k n = decimal k ++ codes " step " ++ decimal n ++ codes "\n"

abbrev pub looked_line : ℕ → ℕ → List ℕ
looked_line k n = decimal k ++ codes " look " ++ decimal n ++ codes "\n"

-- the line of a question, with the names of the children, each behind a blank
abbrev pub asked_line : ℕ → ℕ → List ℕ → List ℕ
asked_line k n names = decimal k ++ codes " ask " ++ decimal n ++ codes ":" ++ names ++ codes "\n"

abbrev pub said_line : ℕ → ℕ → List (List ℕ) → List ℕ
said_line k n names = asked_line k n (flat_map spaced names)

-- the line of a session that has not begun, and of one that begins a second time
abbrev pub unknown_line : ℕ → List ℕ
unknown_line k = decimal k ++ codes " unknown\n"

abbrev pub known_line : ℕ → List ℕ
known_line k = decimal k ++ codes " is open\n"

-- the line of a refusal, with the name of its exception
abbrev pub named_line : ℕ → List ℕ → ℕ → List ℕ
named_line k name n = decimal k ++ codes " refused " ++ name ++ codes " at " ++ decimal n ++ codes "\n"

abbrev pub refused_line : ℕ → Exception → ℕ → List ℕ
refused_line k exception n = named_line k (name_of exception) n

-- the line of a step of session k, by its answer; want of memory has none
abbrev pub line_of : {C Q A X : Type 0} → Asking C Q A X → ℕ → Result (Done A) (CoreStop X) → List ℕ
line_of a k (Ok (Entered n)) = entered_line k n
line_of a k (Ok (Wrote reply n)) = wrote_line k n
line_of a k (Ok (Looked n)) = looked_line k n
line_of a k (Ok (Said reply n)) = said_line k n (a.names reply)
line_of a k (Err Unknown) = unknown_line k
line_of a k (Err Known) = known_line k
line_of a k (Err (Refused cause n)) = refused_line k (a.exception cause) n
line_of a k (Err Memory) = []

-- the lines of steps that were answered so
abbrev pub lines_of : {C Q A X : Type 0} → Asking C Q A X → List Step → List (Result (Done A) (CoreStop X)) → List ℕ
lines_of a [] answers = []
lines_of a (step ∷ steps) [] = []
lines_of a (step ∷ steps) (answer ∷ answers) = line_of a step.session answer ++ lines_of a steps answers

-- what is printed of steps, from a world on
abbrev pub printed : {S C Q A X : Type 0} → Rules S C Q A X → Asking C Q A X → World S C → List Step → List ℕ
printed m a w steps = lines_of a steps (answers m w (map (event_of a) steps))

-- the line for the n-th line, which is not valid
abbrev pub bad_line : ℕ → List ℕ
bad_line n = codes "line " ++ decimal n ++ codes " is not valid\n"
