use Rattle.std.proofs.Common.{◌∙◌, sym}
use Rattle.disk.specs.Calls.{at_first}
use Rattle.disk.proofs.Replay.{seen_more, tore_more}
use Rattle.disk.specs.declared.mem_disk.Call.TheVariants as calls_of
use Rattle.disk.proofs.mem_disk.MemDisk.tear.Goals as goal

pub invariant_of-self-2 : goal.invariant_of-self-2
invariant_of-self-2 c = c.self.invariant ∙ sym (seen_more (at_first c.self.inside.first.items) c.self.inside.calls.items c.push.new.self.items c.self.inside.faults (calls_of.Tore c.args.at c.args.len) c.in_ok-push.ensures.items)

pub returns-clause-ok : goal.returns-clause-ok
returns-clause-ok c = rw (← c.self.view_is) (tore_more (at_first c.self.inside.first.items) c.self.inside.calls.items c.push.new.self.items c.self.inside.faults c.args.at c.args.len c.in_ok-push.ensures.items)
