use Rattle.std.proofs.Common.{rules, arith}
use Rattle.cm_state.specs.Members.{names_at}
use Rattle.cm_state.proofs.Noted.{member_noted}
use Rattle.cm_state.proofs.people.note_group.Goals as goal

pub loop-member-preserved : goal.loop-member-preserved
loop-member-preserved c =
    member_noted (names_at c.args.by_member.now) (names_at c.loop-member.by_member) (names_at c.note.new.by_member)
    c.as_slice-member-items.result.now c.loop-member.member-index c.member-item.result c.member-item.result c.args.group.now.name (omega arith) (search (rules, c.requires.differ)) c.member-item.is c.loop-member.invariant c.in_ok-note.ensures
