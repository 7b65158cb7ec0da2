use Rattle.std.proofs.Common.{◌≡◌, map, take}
use Rattle.json_text.specs.Shown.{listed}
use Rattle.call_json.specs.Changes.{event_data}
use Rattle.call_json.proofs.changes.each_event.Given as goal

abbrev pub invariant-loop-event : goal.invariant-loop-event
invariant-loop-event l = listed l.elements ≡ map (event_data l.succinct) (take l.event-index l.events)
