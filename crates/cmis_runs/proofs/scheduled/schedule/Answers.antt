use Rattle.cmis_program.specs.Kinds.{rules_of}
use Rattle.cmis_runs.proofs.Scripts.{begun, starved}
use Rattle.cmis_runs.proofs.scheduled.schedule.Goals as goal

pub returns-in-Ok : goal.returns-in-Ok
returns-in-Ok g c = begun (rules_of g.P.Plain.Machine.next g.P.Plain.Machine.answer g.P.Plain.Machine.number) g.P.Folders.Scripted.asks _ _ _ _ _ c.run_script.result _ c.in-Ok.ensures c.run_script.ensures c.status_at.ensures

pub returns-in-Err : goal.returns-in-Err
returns-in-Err g c = starved (rules_of g.P.Plain.Machine.next g.P.Plain.Machine.answer g.P.Plain.Machine.number) g.P.Folders.Scripted.asks _ _
