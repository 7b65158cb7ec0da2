use Rattle.std.specs.Prelude.{map, string_bytes}
use Rattle.cmis_program.specs.Kinds.{kind_of}
use Rattle.cmis_runs.proofs.Asked.{runs_load, runs_others}
use Rattle.cmis_runs.proofs.Failed.{load_failed}
use Rattle.cmis_runs.proofs.once.load_or_serve.Goals as goal

pub returns-in-Some : goal.returns-in-Some
returns-in-Some g c = record {
  ran = runs_load (kind_of g.P.Face.Machine.next g.P.Face.Machine.answer g.P.Face.Machine.number g.P.Face.Served.call g.P.Face.Served.user g.P.Face.Served.least g.P.Face.Served.closes) (map string_bytes c.args.words.now) c.in-Some.n (g.C.Clock.words c.args.clock.now) (g.I.Source.told c.args.input.now) (g.O.Sink.told c.args.output.now) (g.O.Sink.told c.load.new.output) c.load.result c.in-Some.ensures c.load.ensures;
  failed = load_failed (kind_of g.P.Face.Machine.next g.P.Face.Machine.answer g.P.Face.Machine.number g.P.Face.Served.call g.P.Face.Served.user g.P.Face.Served.least g.P.Face.Served.closes) c.in-Some.n (g.I.Source.told c.args.input.now) (g.O.Sink.told c.args.output.now) (g.I.Source.told c.args.input.now) (g.O.Sink.told c.load.new.output) c.load.result c.load.ensures;
}

pub returns-in-None-clause-ran : goal.returns-in-None-clause-ran
returns-in-None-clause-ran g c = runs_others (kind_of g.P.Face.Machine.next g.P.Face.Machine.answer g.P.Face.Machine.number g.P.Face.Served.call g.P.Face.Served.user g.P.Face.Served.least g.P.Face.Served.closes) (map string_bytes c.args.words.now) (g.C.Clock.words c.args.clock.now) (g.I.Source.told c.args.input.now) (g.O.Sink.told c.args.output.now) (g.I.Source.told c.run_lent.new.input) (g.O.Sink.told c.run_lent.new.output) c.run_lent.result c.in-None.ensures c.run_lent.ensures.ran
