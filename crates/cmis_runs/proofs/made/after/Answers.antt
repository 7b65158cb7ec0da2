use Rattle.std.proofs.Common.{sym, ◌∙◌, subst}
use Rattle.load_sessions.specs.Sessions.{Leads}
use Rattle.cmis_program.specs.Kinds.{kind_of}
use Rattle.cmis_runs.proofs.made.after.Goals as goal

pub returns : goal.returns
returns g c = subst (Leads (kind_of g.P.Face.Machine.next g.P.Face.Machine.answer g.P.Face.Machine.number g.P.Face.Served.call g.P.Face.Served.user g.P.Face.Served.least g.P.Face.Served.closes) c.args.users.now c.args.numbers.now c.args.state) (sym (c.in_ok-after.ensures ∙ c.state.ensures)) c.in_ok-last.ensures
