use Rattle.std.proofs.Common.{◌∙◌, sym}
use Rattle.cm_repo.proofs.server_machine.sent_found.Goals as goal

pub returns-then-is_a : goal.returns-then-is_a
returns-then-is_a c = rw (sym c.is_a.ensures ∙ c.if-is_a.true) c.sent_children.ensures

pub returns-then-is_a-2 : goal.returns-then-is_a-2
returns-then-is_a-2 c = rw (sym c.is_a.ensures ∙ c.if-is_a.false, sym c.is_a-2.ensures ∙ c.if-is_a-2.true) c.sent_stream.ensures

pub returns : goal.returns
returns c = rw (sym c.is_a.ensures ∙ c.if-is_a.false, sym c.is_a-2.ensures ∙ c.if-is_a-2.false) c.sent_included.ensures
