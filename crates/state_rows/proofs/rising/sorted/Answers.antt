use Rattle.std.proofs.Common.{ap, sym, ◌∙◌, subst}
use Rattle.std.specs.List.{list_any}
use Rattle.cm_map.specs.Keyed.{Rises}
use Rattle.cmis_spec.specs.Repository.{same}
use Rattle.cm_state.proofs.Numbers.{rising_keys, member_keys}
use Rattle.state_rows.proofs.rising.sorted.Goals as goal

pub returns-clause-rising : goal.returns-clause-rising
returns-clause-rising c = subst (Rises (λ n. n.0)) (sym c.in_ok-keys.ensures) (rising_keys c.in_ok-all.all c.len-sorted.ensures.sorted)

pub returns-clause-members : goal.returns-clause-members
returns-clause-members c n = ap (list_any (same n)) c.in_ok-keys.ensures ∙ (member_keys c.in_ok-all.all n ∙ c.in_ok-all.ensures n.0)
