use Rattle.std.proofs.Common.{sym, ap}
use Rattle.std.specs.Prelude.{Ok}
use Rattle.cm_base.specs.declared.cause.Cause.TheVariants as causes
use Rattle.cm_base.specs.Judged.{◌>>◌, refuse}
use Rattle.rd_types.specs.ReadTypes.{tree_reply}
use Rattle.type_tree.specs.Trees.{names_none}
use Rattle.rd_types.proofs.law.type_descendants_of_seen.Goals as goal

pub returns : goal.returns
returns c r u q w other v e = sym (ap (λ s. refuse causes.TypeNotFound (names_none s.types q.type_id) >> Ok (tree_reply s.types q)) e)
