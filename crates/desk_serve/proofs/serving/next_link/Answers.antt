use Rattle.outside.specs.Hosts.{IsNew}
use Rattle.desk_serve.proofs.Taking.{taken_from}
use Rattle.desk_serve.proofs.serving.next_link.Goals as goal

pub returns-in-Ok-Some-clause-link : goal.returns-in-Ok-Some-clause-link
returns-in-Ok-Some-clause-link g c = let e = c.in-Ok-Some.ensures in
    taken_from (λ l. IsNew (g.H.Link.Source.told l) (g.H.Link.Sink.told l)) (g.H.Host.told c.args.all.now.value) (g.H.Host.told c.args.host.now) (g.H.Host.told c.accept.new.self) (g.H.Host.left c.args.all.now.value) (g.H.Host.left c.args.host.now) (g.H.Host.left c.accept.new.self) c.args.place c.in-Ok-Some.field-0 c.in-Ok-Some.link
    c.requires.taken e.accepts c.in-Ok-Some.field-0-is e.port e.bound e.cause.later
