use Rattle.std.proofs.Common.{sym, ap}
use Rattle.std.specs.Prelude.{Ok}
use Rattle.cm_base.specs.declared.cause.Cause.TheVariants as causes
use Rattle.cm_base.specs.Judged.{◌>>◌, refuse}
use Rattle.rd_types.specs.ReadTypes.{types_reply}
use Rattle.type_tree.specs.Trees.{names_none, types_below}
use Rattle.rd_types.proofs.law.type_children_of_seen.Goals as goal

pub returns : goal.returns
returns c r u q w other v e = sym (ap (λ s. refuse causes.TypeNotFound (names_none s.types q.type_id) >> Ok (types_reply q (types_below s.types q.type_id))) e)
