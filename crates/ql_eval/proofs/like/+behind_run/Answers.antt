use Rattle.std.proofs.Common.{sym}
use Rattle.ql_eval.specs.Likes.{likes}
use Rattle.ql_eval.proofs.Runs.{here}
use Rattle.ql_eval.proofs.like.+behind_run.Goals as goal

pub returns-in-Fits : goal.returns-in-Fits
returns-in-Fits t c = sym (here (likes c.args.pieces.now) c.args.text.now c.in-Fits.ensures)
