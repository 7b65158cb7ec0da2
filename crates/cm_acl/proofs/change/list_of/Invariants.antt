use Rattle.std.proofs.Common.{◌≡◌, map}
use Rattle.cm_map.specs.Parts.{pointee}
use Rattle.cm_map.specs.Sets.{key_of}
use Rattle.cm_acl.specs.Keys.{ace_of_key}
use Rattle.cm_acl.proofs.change.list_of.Given as goal

abbrev pub invariant-loop-entry : goal.invariant-loop-entry
invariant-loop-entry l = l.aces.items ≡ map ace_of_key (map key_of (map pointee l.yielded))
