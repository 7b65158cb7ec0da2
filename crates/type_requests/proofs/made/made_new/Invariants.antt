use Rattle.std.proofs.Common.{◌≡◌, take}
use Rattle.cm_types.specs.Changes.{made_props, new_props}
use Rattle.type_requests.proofs.made.made_new.Given as goal

abbrev pub invariant-loop-request : goal.invariant-loop-request
invariant-loop-request l = l.all ≡ made_props (new_props l.defs (take l.request-index l.requests))
