use Rattle.std.proofs.Common.{◌≡◌, ℕ, List, take}
use Rattle.std.specs.Prelude.{is_some, bytes_eq}
use Rattle.std.specs.List.{list_any}
use Rattle.core.specs.Ordering.{nat_cmp}
use Rattle.core.specs.Cmp.Lexicographic.{slice_cmp}
use Rattle.core.specs.FinMap.Entries as entries
use Rattle.cm_types.specs.Changes.{has_clash}
use Rattle.type_requests.proofs.clash.has_clash.Given as goal

abbrev pub invariant-loop-def : goal.invariant-loop-def
invariant-loop-def l = record {
  ids : (q : List ℕ) → is_some (entries.find (slice_cmp nat_cmp) q l.ids) ≡ list_any (λ d. bytes_eq d.id q) (take l.def-index l.defs);
  names : (q : List ℕ) → is_some (entries.find (slice_cmp nat_cmp) q l.names) ≡ list_any (λ d. bytes_eq d.query_name q) (take l.def-index l.defs);
  found : l.found ≡ has_clash (take l.def-index l.defs);
}
