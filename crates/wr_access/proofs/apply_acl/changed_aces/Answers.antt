use Rattle.std.proofs.Common.{sym, ap, ◌∙◌, option_copied}
use Rattle.wr_access.proofs.Allowed.{found_sound}
use Rattle.wr_access.proofs.apply_acl.changed_aces.Goals as goal

pub apply-requires : goal.apply-requires
apply-requires c = (found_sound c.args.state.now c.args.n c.in-Some.list.now c.step-step.ensures.well (sym (ap option_copied (sym c.in-Some.is) ∙ c.access_list.ensures))).0
