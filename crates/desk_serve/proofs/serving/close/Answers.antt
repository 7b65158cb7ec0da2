use Rattle.std.proofs.Common.{rules, sym, subst}
use Rattle.desk_model.specs.Histories.{IsLegal}
use Rattle.talk.specs.Served.{wire_of}
use Rattle.desk_serve.specs.Sessions.{terms, Closed}
use Rattle.desk_serve.proofs.Ending.{closed}
use Rattle.desk_serve.proofs.serving.close.Goals as goal

pub returns-clause-closed : goal.returns-clause-closed
returns-clause-closed g c = let t = (terms g.M.Machine.next g.M.Machine.answer g.M.Machine.number g.M.Served.call g.M.Served.user g.M.Served.least g.M.Served.closes g.K.Keeper.faults g.H.Link.Source.told g.H.Link.Sink.told c.args.users.now (g.H.Host.left c.args.all.now.value)) in let last = c.close-last.result.0 in
    let lawful : IsLegal g.M.Machine.next last.opening last.journal = search rules in
    record {
      sure = c.args.pass.sure;
      stand = c.close-last.ensures.kept;
      broken = c.close-last.ensures.failed;
      closed = subst (λ ended. Closed t c.args.lock.version.opening last c.args.pass.sure ended) (sym c.from_vec.ensures)
          (closed t c.args.lock (c.session_stands.ensures (wire_of g.M.Served.user g.M.Served.least g.M.Served.closes) g.M.Served.call) c.args.pass last c.args.ended.items c.requires c.close-last.ensures.closes lawful);
    }
