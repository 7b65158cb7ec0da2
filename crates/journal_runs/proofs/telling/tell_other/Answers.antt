use Rattle.std.proofs.Common.{◌≡◌, ℕ, List, [], Option, Bor, subst, sym, ap, ◌∙◌}
use Rattle.std.specs.Prelude.{unwrap_or}
use Rattle.std.specs.Option.{option_copied}
use Rattle.cmis_spec.specs.Repository.{administrator_of}
use Rattle.keep_status.specs.Endings.{Told, administrator}
use Rattle.journal_runs.proofs.telling.tell_other.Goals as goal

pub returns-in-Some : goal.returns-in-Some
returns-in-Some g c =
    let told = g.O.Sink.told in
    let is : c.in-Some.name.now ≡ administrator_of c.args.kept.now.names = ap (λ (o : Option (Bor (List ℕ))). unwrap_or (option_copied o) []) (sym c.in-Some.is)
    ∙ (ap (λ (o : Option (List ℕ)). unwrap_or o []) c.first_of.ensures ∙ ap (λ (l : List (List ℕ)). administrator_of l) (c.as_slice.ensures ∙ c.names.ensures.value)) in
    subst (λ (name : List ℕ). Told 10 (administrator name) (told c.args.output.now) (told c.tell_administrator.new.output) c.tell_administrator.result) is c.tell_administrator.ensures

pub returns-in-None : goal.returns-in-None
returns-in-None g c =
    let told = g.O.Sink.told in
    let is : c.empty-nobody.result ≡ administrator_of c.args.kept.now.names = c.empty-nobody.ensures ∙ (ap (λ (o : Option (Bor (List ℕ))). unwrap_or (option_copied o) []) (sym c.in-None.is)
    ∙ (ap (λ (o : Option (List ℕ)). unwrap_or o []) c.first_of.ensures ∙ ap (λ (l : List (List ℕ)). administrator_of l) (c.as_slice.ensures ∙ c.names.ensures.value))) in
    subst (λ (name : List ℕ). Told 10 (administrator name) (told c.args.output.now) (told c.tell_administrator-in-None.new.output) c.tell_administrator-in-None.result) is c.tell_administrator-in-None.ensures
