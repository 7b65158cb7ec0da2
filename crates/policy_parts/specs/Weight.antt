-- The weights of the writes on applied policies.
use Rattle.std.specs.Prelude.{ℕ, [], ◌∷◌, ◌++◌}
use Rattle.call_parts.specs.Versions.{weight_with}
use Rattle.call_parts.specs.Weight.{texts_of_place}
use Rattle.policy_parts.specs.declared.writes.ApplyPolicy.{ApplyPolicy}
use Rattle.policy_parts.specs.declared.writes.RemovePolicy.{RemovePolicy}

abbrev pub weight_of_apply_policy : ApplyPolicy → ℕ
weight_of_apply_policy call = weight_with (texts_of_place call.place ++ call.policy ∷ []) 0

abbrev pub weight_of_remove_policy : RemovePolicy → ℕ
weight_of_remove_policy call = weight_with (texts_of_place call.place ++ call.policy ∷ []) 0
