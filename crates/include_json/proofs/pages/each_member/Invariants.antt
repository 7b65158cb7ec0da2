use Rattle.std.proofs.Common.{◌≡◌, map, take}
use Rattle.json_text.specs.Shown.{listed}
use Rattle.include_json.specs.Pages.{member_data}
use Rattle.include_json.proofs.pages.each_member.Given as goal

abbrev pub invariant-loop-member : goal.invariant-loop-member
invariant-loop-member l = listed l.elements ≡ map (member_data l.key) (take l.member-index l.members)
