use Rattle.std.proofs.Common.{◌||◌, is_some, option_copied, sym, ap, ◌∙◌}
use Rattle.core.specs.Ordering.{nat_cmp}
use Rattle.core.specs.FinMap.Entries.{find}
use Rattle.cm_state.specs.Looks.{has_number}
use Rattle.cm_state.proofs.Numbers.{more_numbers}
use Rattle.cm_state.proofs.standing.with_number.Goals as goal

pub returns-in_ok-more-in-Some : goal.returns-in_ok-more-in-Some
returns-in_ok-more-in-Some c n =
    let all = c.args.all.now in
    ap (λ m. is_some (find nat_cmp n m)) c.in_ok-more-in-Some.ensures
    ∙ (more_numbers n c.in-Some.x.now.id.0 all ∙ ap (λ o. has_number n o || is_some (find nat_cmp n all)) (ap option_copied (sym c.in-Some.is)))
