use Rattle.std.proofs.Common.{◌≡◌, ◌==◌, not, filter, take}
use Rattle.std.specs.List.{list_any}
use Rattle.cm_content.proofs.renditions.Renditions.without_all.Given as goal

abbrev pub invariant-loop-number : goal.invariant-loop-number
invariant-loop-number l = l.left ≡ filter (λ d. not (list_any (λ q. d.id.0 == q) (take l.number-index l.numbers))) l.self
