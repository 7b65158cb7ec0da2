-- A failed side was counted.
use Rattle.std.specs.Prelude.{map, string_bytes}
use Rattle.cmis_words.specs.Programs.{words_of}
use Rattle.cmis_program.specs.Kinds.{kind_of}
use Rattle.cmis_runs.proofs.Failed.{failed}
use Rattle.cmis_runs.proofs.once.run_link.Goals as goal

pub returns-clause-failed : goal.returns-clause-failed
returns-clause-failed g c = failed (kind_of g.P.Face.Machine.next g.P.Face.Machine.answer g.P.Face.Machine.number g.P.Face.Served.call g.P.Face.Served.user g.P.Face.Served.least g.P.Face.Served.closes) (words_of (map string_bytes c.args.words.now)) (g.C.Clock.words c.args.clock.now) (g.L.Source.told c.args.link.now) (g.L.Sink.told c.args.link.now) (g.L.Source.told c.run_words.new.link) (g.L.Sink.told c.run_words.new.link) c.run_words.result c.run_words.ensures.ran
