use Rattle.std.proofs.Common.{◌≡◌, ◌==◌, map, filter_map, find}
use Rattle.cm_map.specs.Parts.{pointee}
use Rattle.cm_content.proofs.renditions.Renditions.found.Given as goal

abbrev pub invariant-loop-entry : goal.invariant-loop-entry
invariant-loop-entry l = map pointee l.all.items ≡ filter_map (λ e. find (λ d. d.id.0 == e.0) l.self) (map pointee l.yielded)
