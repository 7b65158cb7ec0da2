use Rattle.step_laws.proofs.Steps.{step_well}
use Rattle.step_laws.proofs.well.step_keeps.Goals as goal

pub returns : goal.returns
returns c = λ r e x w h. step_well r e x w h
