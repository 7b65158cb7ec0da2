-- The base types are such that a repository may begin with them.
use Rattle.cm_opening.proofs.BaseTypes.{opens}
use Rattle.cm_opening.proofs.open.open.Goals as goal

pub opening-requires : goal.opening-requires
opening-requires c = record { well = opens c.in_ok-types.types c.args.users.now c.args.groups c.args.start c.in_ok-types.ensures c.requires.groups c.requires.bound c.requires.limits }
