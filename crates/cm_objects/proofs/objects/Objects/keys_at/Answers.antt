use Rattle.std.proofs.Common.{◌≡◌, IfOk, [], subst, ap, ◌∙◌, unwrap_or, option_map}
use Rattle.cm_objects.specs.Indexed.{keys_of, keys_at}
use Rattle.cm_objects.proofs.objects.Objects.keys_at.Goals as goal

pub returns-in-Some : goal.returns-in-Some
returns-in-Some c =
    subst (λ l. IfOk c.keys_of.result (λ ks. ks ≡ l))
    (ap (λ o. unwrap_or (option_map keys_of o) []) c.in-Some.ensures ∙ ap (λ l. keys_at l c.args.n) c.self.view_is) c.keys_of.ensures
