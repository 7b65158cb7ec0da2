-- What a step of a script asks of a machine: one user, one moment, folders in the root and the root's children.
use Rattle.std.specs.Prelude.{ℕ, pos, List, codes}
use Rattle.cm_base.specs.declared.exception.Exception.{Exception}
use Rattle.cm_base.specs.declared.number.Moment.{Moment}
use Rattle.desk_core.specs.declared.event.Event.{Event}
use Rattle.desk_core.specs.declared.event.Event.TheVariants as events
use Rattle.schedule_lines.specs.declared.step.Act.{Act}
use Rattle.schedule_lines.specs.declared.step.Act.TheVariants as acts
use Rattle.schedule_lines.specs.declared.step.Step.{Step}

-- What scripts ask of a machine, and what is printed of its answers: the call that makes a folder of a name in the root, the question for
-- the children of the root, the names that are shown in a reply, and the exception of a cause.
pub record Asking (C Q A X : Type 0) : Type 0 where
  pub folder : List ℕ → C
  pub children : Q
  pub names : A → List (List ℕ)
  pub exception : X → Exception

-- the one user
abbrev pub user : List ℕ
user = codes "admin"

-- each moment
abbrev pub moment : Moment
moment = record { 0 = pos 0 }

abbrev pub event_by : {C Q A X : Type 0} → Asking C Q A X → ℕ → Act → Event C Q
event_by a k acts.Open = events.Enter k
event_by a k (acts.Write name) = events.Write k user moment (a.folder name)
event_by a k acts.Look = events.Look k
event_by a k acts.Ask = events.Ask k user a.children

-- the event of a step
abbrev pub event_of : {C Q A X : Type 0} → Asking C Q A X → Step → Event C Q
event_of a step = event_by a step.session step.act
