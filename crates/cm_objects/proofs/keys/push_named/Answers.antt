use Rattle.std.proofs.Common.{◌≡◌, ◌++◌, OnOk, subst, ap, ◌∙◌, unwrap_or, option_map}
use Rattle.std.specs.List.{filter_map}
use Rattle.cm_base.specs.declared.value.Value.TheVariants.{Unset}
use Rattle.cm_types.specs.Properties.{value_in, scalars_of}
use Rattle.cm_objects.specs.Indexed.{scalar_key}
use Rattle.cm_objects.proofs.keys.push_named.Goals as goal

pub returns-in-Some : goal.returns-in-Some
returns-in-Some c =
    subst (λ v. OnOk c.push_value.result (c.push_value.new.keys ≡ c.args.keys.now ++ filter_map scalar_key (scalars_of v)))
    (ap (λ o. unwrap_or (option_map (λ s. s.value) o) Unset) c.in-Some.ensures ∙ ap (λ l. value_in l c.args.id.now) c.as_slice.ensures) c.push_value.ensures
