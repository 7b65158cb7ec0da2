use Rattle.http_wire.proofs.Ranges.{drop_range}
use Rattle.http_wire.proofs.window.Window.drop_front.Goals as goal

pub returns : goal.returns
returns c = drop_range c.args.self.now.bytes.items c.args.self.now.start c.args.self.now.end c.args.count c.args.self.now.in_range.0 c.args.self.now.in_range.1 c.requires
