use Rattle.std.specs.Prelude.{map, string_bytes}
use Rattle.std.proofs.Common.{◌∙◌, sym}
use Rattle.cmis_program.specs.Kinds.{kind_of, rules_of}
use Rattle.cmis_runs.proofs.Scripts.{runs_schedule, runs_other, schedule_failed}
use Rattle.cmis_runs.proofs.once.run_once.Goals as goal

pub returns-then-are_schedule : goal.returns-then-are_schedule
returns-then-are_schedule g c = record {
  ran = runs_schedule (kind_of g.P.Face.Machine.next g.P.Face.Machine.answer g.P.Face.Machine.number g.P.Face.Served.call g.P.Face.Served.user g.P.Face.Served.least g.P.Face.Served.closes) (rules_of g.P.Plain.Machine.next g.P.Plain.Machine.answer g.P.Plain.Machine.number) g.P.Folders.Scripted.asks (map string_bytes c.args.words.now) (g.C.Clock.words c.args.clock.now) _ _ _ _ _ (sym c.are_schedule.ensures ∙ c.if-are_schedule.true) c.schedule.ensures;
  failed = schedule_failed (rules_of g.P.Plain.Machine.next g.P.Plain.Machine.answer g.P.Plain.Machine.number) g.P.Folders.Scripted.asks _ _ _ _ _ c.schedule.ensures;
}

pub returns-clause-ran : goal.returns-clause-ran
returns-clause-ran g c = runs_other (kind_of g.P.Face.Machine.next g.P.Face.Machine.answer g.P.Face.Machine.number g.P.Face.Served.call g.P.Face.Served.user g.P.Face.Served.least g.P.Face.Served.closes) (rules_of g.P.Plain.Machine.next g.P.Plain.Machine.answer g.P.Plain.Machine.number) g.P.Folders.Scripted.asks (map string_bytes c.args.words.now) (g.C.Clock.words c.args.clock.now) _ _ _ _ _ (sym c.are_schedule.ensures ∙ c.if-are_schedule.false) c.load_or_serve.ensures.ran
