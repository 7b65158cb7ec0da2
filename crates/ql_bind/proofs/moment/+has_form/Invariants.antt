use Rattle.std.proofs.Common.{length}
use Rattle.ql_bind.proofs.moment.+has_form.Given as goal

abbrev pub decreases-has_form : goal.decreases-has_form
decreases-has_form l = length l.form.now
