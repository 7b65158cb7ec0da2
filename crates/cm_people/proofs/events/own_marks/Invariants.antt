use Rattle.std.proofs.Common.{◌≡◌, map, take}
use Rattle.cmis_spec.specs.Seen.{marked, place_among}
use Rattle.cm_people.proofs.events.own_marks.Given as goal

abbrev pub invariant-loop-name : goal.invariant-loop-name
invariant-loop-name l = l.all ≡ map (λ name. marked l.marks (place_among l.users name)) (take l.name-index l.names)
