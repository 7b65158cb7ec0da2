use Rattle.std.proofs.Common.{sym, ◌∙◌}
use Rattle.bind_parts.proofs.Hosts.{host_is_text}
use Rattle.bind_parts.proofs.asking.good_host.Goals as goal

pub returns-in-Err : goal.returns-in-Err
returns-in-Err c = absurd (c.in-Err.ensures.cases.0 (host_is_text c.args.value.now (sym c.is_host.ensures ∙ c.if-not-is_host.false)))
