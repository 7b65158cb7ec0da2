use Rattle.std.proofs.Common.{◌≡◌, ◌&&◌, not, map, filter}
use Rattle.std.specs.List.{list_any}
use Rattle.cm_map.specs.Parts.{pointee}
use Rattle.cmis_spec.specs.Repository.{same}
use Rattle.cm_removal.proofs.entries.out_of.Given as goal

abbrev pub invariant-loop-entry : goal.invariant-loop-entry
invariant-loop-entry l = l.left ≡ record l.initial.left { filed = filter (λ p. not (list_any (λ f. same p.folder f && same p.child l.n) (map (λ e. e.1) (map pointee l.yielded)))) l.initial.left.filed }
