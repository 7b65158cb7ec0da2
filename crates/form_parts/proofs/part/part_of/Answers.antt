use Rattle.form_parts.proofs.Places.{part_found}
use Rattle.form_parts.proofs.part.part_of.Goals as goal

pub returns-in-Some : goal.returns-in-Some
returns-in-Some c =
    part_found c.part_in.result c.args.body.now c.as_slice.result.now c.in-Some.head.content.now c.in-Some.head.fields.items c.deref.result.now c.args.at (record { ordered = c.requires.ordered; within = c.requires.within }) c.as_slice.ensures
    (rw c.in-Some.is at c.in_ok-read_head.ensures.value) (rw c.in-Some.is at c.in_ok-read_head.ensures.short) (rw c.in-Some.is at c.in_ok-read_head.ensures.last) c.deref.ensures.value c.part_in.ensures
