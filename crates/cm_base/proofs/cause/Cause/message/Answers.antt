use Rattle.std.proofs.Common.{rules}
use Rattle.cm_base.proofs.cause.Cause.message.Goals as goal
use Rattle.cm_base.proofs.cause.Cause.message.Goals.{in-NotServed, in-BadArgument, in-MissingArgument, in-StepAhead, in-Storage, in-Token, in-Property, in-Retained, in-Shortened, in-TooMany, in-QueryText, in-QueryName, in-QueryUse, in-QueryLeft, in_default}

pub returns : goal.returns
returns c = elim c.match-self.branch [ in-NotServed w ↦ search rules | in-BadArgument w ↦ search rules | in-MissingArgument w ↦ search rules | in-StepAhead w ↦ search rules | in-Storage w ↦ search rules | in-Token w ↦ search rules | in-Property w ↦ search rules | in-Retained w ↦ search rules | in-Shortened w ↦ search rules | in-TooMany w ↦ search rules | in-QueryText w ↦ search rules | in-QueryName w ↦ search rules | in-QueryUse w ↦ search rules | in-QueryLeft w ↦ search rules | in_default w ↦ search rules ]
