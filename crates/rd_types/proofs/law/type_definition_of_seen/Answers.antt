use Rattle.std.proofs.Common.{sym, ap}
use Rattle.std.specs.Prelude.{Ok, false}
use Rattle.cm_base.specs.declared.cause.Cause.TheVariants as causes
use Rattle.cm_base.specs.Judged.{◌>>=◌, find_or}
use Rattle.cm_types.specs.Types.{type_in}
use Rattle.rd_types.proofs.law.type_definition_of_seen.Goals as goal

pub returns : goal.returns
returns c r u q w other v e = sym (ap (λ s. find_or causes.TypeNotFound (type_in s.types q.type_id) >>= λ t. Ok (record { definition = t; created = false })) e)
