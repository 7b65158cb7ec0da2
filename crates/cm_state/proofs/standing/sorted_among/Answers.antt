use Rattle.std.proofs.Common.{ap, sym, ◌∙◌, subst}
use Rattle.std.specs.List.{list_any}
use Rattle.cm_map.specs.Keyed.{Rises}
use Rattle.cmis_spec.specs.Repository.{same}
use Rattle.cm_state.proofs.Numbers.{rising_keys, member_keys}
use Rattle.cm_state.proofs.standing.sorted_among.Goals as goal

pub returns : goal.returns
returns c = record {
  rising = subst (Rises (λ n. n.0)) (sym c.in_ok-numbers.ensures) (rising_keys c.in_ok-all.all c.len-sorted.ensures.sorted);
  members = λ n. ap (list_any (same n)) c.in_ok-numbers.ensures ∙ (member_keys c.in_ok-all.all n ∙ c.in_ok-all.ensures n.0);
}
