use Rattle.std.proofs.Common.{◌∙◌, ◌||◌, ap}
use Rattle.std.specs.Prelude.{is_some, bytes_eq}
use Rattle.core.specs.Ordering.{nat_cmp}
use Rattle.core.specs.Cmp.Lexicographic.{slice_cmp}
use Rattle.core.specs.FinMap.Entries as entries
use Rattle.type_requests.proofs.Clashing.{has_put}
use Rattle.type_requests.proofs.clash.with_name.Goals as goal

pub returns : goal.returns
returns c q =
    ap (λ m. is_some (entries.find (slice_cmp nat_cmp) q m)) c.in_ok-next.ensures
    ∙ has_put q c.in_ok-name.name _ c.args.names.now
    ∙ ap (λ n. bytes_eq n q || is_some (entries.find (slice_cmp nat_cmp) q c.args.names.now)) c.in_ok-name.ensures
