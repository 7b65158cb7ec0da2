-- What a step of the core, and a run of it, tell. Want of memory is the one free answer.
use Rattle.std.specs.Prelude.{◌≡◌, List, ◌++◌, Result, Ok, Err}
use Rattle.desk_core.specs.declared.event.Event.{Event}
use Rattle.desk_core.specs.declared.event.Done.{Done}
use Rattle.desk_core.specs.declared.event.CoreStop.{CoreStop}
use Rattle.desk_core.specs.declared.event.CoreStop.TheVariants.{Unknown, Known, Refused, Memory}
use Rattle.desk_core.specs.Interleaving.{Rules, World, happens, told, run}

-- the step answers what the event is told, and the world has gone on by it; where memory was wanted nothing has changed
abbrev pub Stepped : {S C Q A X : Type 0} → Rules S C Q A X → World S C → Event C Q → Result (Done A) (CoreStop X) → World S C → Type 0
Stepped m w event (Ok done) v = (told m w event ≡ Ok done) × (v ≡ happens m w event)
Stepped m w event (Err Unknown) v = (told m w event ≡ Err Unknown) × (v ≡ happens m w event)
Stepped m w event (Err Known) v = (told m w event ≡ Err Known) × (v ≡ happens m w event)
Stepped m w event (Err (Refused cause number)) v = (told m w event ≡ Err (Refused cause number)) × (v ≡ happens m w event)
Stepped m w event (Err Memory) v = v ≡ w

-- the world stands after a front of the events
abbrev pub StoodAfter : {S C Q A X : Type 0} → Rules S C Q A X → World S C → List (Event C Q) → World S C → Type 0
StoodAfter m w events v = (done : List (Event _ _)) × (later : List (Event _ _)) × (events ≡ done ++ later) × (v ≡ run m w done)
