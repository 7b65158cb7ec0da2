use Rattle.bind_form.proofs.Named.{form_of_some}
use Rattle.bind_form.proofs.form.form_in.Goals as goal

pub returns-in-len1-up : goal.returns-in-len1-up
returns-in-len1-up c = rw (form_of_some c.args.head.now c.args.body.now (rw c.as_slice.ensures at c.in-len1-up.len_at_least), ← c.content_type.ensures) c.form_by.ensures
