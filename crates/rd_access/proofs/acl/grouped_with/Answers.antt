use Rattle.std.proofs.Common.{◌≡◌, IfOk, sym, ap, subst, ◌∙◌}
use Rattle.rd_access.specs.Grouped.{grouped_with}
use Rattle.rd_access.proofs.Grouping.{behind_last}
use Rattle.rd_access.proofs.acl.grouped_with.Goals as goal

pub returns-in-Some : goal.returns-in-Some
returns-in-Some c = subst (λ groups. IfOk c.with_behind.result (λ all. all.items ≡ groups))
    (sym (behind_last c.pop.new.self.items c.in-Some.last c.args.ace.now) ∙ ap (λ groups. grouped_with groups c.args.ace.now) (sym c.in-Some.ensures.items))
    c.with_behind.ensures
