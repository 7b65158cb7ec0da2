use Rattle.std.specs.Prelude.{◌≤◌}
use Rattle.load_sessions.specs.Sessions.{Made, sessions_of}
use Rattle.cmis_program.specs.Kinds.{kind_of}
use Rattle.cmis_runs.specs.Loads.{beginning, the_users}
use Rattle.cmis_runs.proofs.made.made.Given as goal

abbrev pub invariant-loop-k : goal.invariant-loop-k
invariant-loop-k g l = Made (kind_of g.P.Face.Machine.next g.P.Face.Machine.answer g.P.Face.Machine.number g.P.Face.Served.call g.P.Face.Served.user g.P.Face.Served.least g.P.Face.Served.closes) the_users beginning l.n l.k l.state × (l.k ≤ sessions_of l.n)
