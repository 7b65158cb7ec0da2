use Rattle.std.proofs.Common.{◌≡◌, map, take}
use Rattle.json_text.specs.Shown.{listed}
use Rattle.type_replies.specs.Infos.{permission_data}
use Rattle.type_replies.proofs.info.each_permission.Given as goal

abbrev pub invariant-loop-id : goal.invariant-loop-id
invariant-loop-id l = listed l.elements ≡ map permission_data (map (λ w. w.now) (take l.id-index l.ids))
