use Rattle.std.proofs.Common.{sym, subst}
use Rattle.cmis_spec.specs.Well.{IsWellFormed}
use Rattle.cmis_laws.proofs.Steps.{limits_keep}
use Rattle.cm_state.proofs.state.sealed_under.Goals as goal

pub seal-requires : goal.seal-requires
seal-requires c = record { well = subst IsWellFormed (sym c.limited-other.ensures) (limits_keep c.args.parts c.args.limits c.requires.well c.requires.within) }
