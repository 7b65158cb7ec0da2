use Rattle.std.proofs.Common.{nat_lt, length, option_copied, sym, ap, ◌∙◌}
use Rattle.std.specs.List.{list_any}
use Rattle.cmis_spec.specs.Repository.{same}
use Rattle.cm_link.proofs.Linking.{objects_at, used_same}
use Rattle.cm_link.proofs.links.Links.is_used.Goals as goal

pub returns-in-Some : goal.returns-in-Some
returns-in-Some c =
    let s = c.self.inside.pairs in
    ap (nat_lt 0) c.len.ensures.len
    ∙ (ap (λ l. nat_lt 0 (length l)) (objects_at s.entries s.by_object s.by_policy c.self.invariant.indexed c.args.policy _ (ap option_copied (sym c.in-Some.is) ∙ c.bucket.ensures) c.len.ensures.sorted)
    ∙ (used_same c.args.policy s.entries ∙ ap (list_any (λ a. same a.policy c.args.policy)) c.self.view_is))

pub returns-in-None : goal.returns-in-None
returns-in-None c =
    let s = c.self.inside.pairs in
    ap (λ l. nat_lt 0 (length l)) (objects_at s.entries s.by_object s.by_policy c.self.invariant.indexed c.args.policy _ (ap option_copied (sym c.in-None.is) ∙ c.bucket.ensures) tt)
    ∙ (used_same c.args.policy s.entries ∙ ap (list_any (λ a. same a.policy c.args.policy)) c.self.view_is)
