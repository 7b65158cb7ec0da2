-- The arguments of allowableActions (CMIS 1.1, section 5.4.2).
use Rattle.std.specs.Prelude.{Ok}
use Rattle.cm_base.specs.Judged.{Judged}
use Rattle.action_parts.specs.declared.readings.ReadActions.{ReadActions}
use Rattle.bind_parts.specs.declared.asking.Asking.{Asking}
use Rattle.bind_parts.specs.Parts.{place_of}

-- no object is shown, so nothing is asked but on which one
abbrev pub actions_of : Asking → Judged ReadActions
actions_of asking = Ok (record { place = place_of asking })
