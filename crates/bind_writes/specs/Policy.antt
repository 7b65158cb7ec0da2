-- The arguments of applyPolicy and removePolicy, judged in their order (CMIS 1.1, section 5.4).
use Rattle.std.specs.Prelude.{false, Ok, codes}
use Rattle.cm_base.specs.Judged.{Judged, ◌>>=◌}
use Rattle.policy_parts.specs.declared.writes.ApplyPolicy.{ApplyPolicy}
use Rattle.policy_parts.specs.declared.writes.RemovePolicy.{RemovePolicy}
use Rattle.form_args.specs.Single.{flag_of, needed}
use Rattle.bind_parts.specs.declared.asking.Asking.{Asking}
use Rattle.bind_parts.specs.Parts.{place_of}

abbrev pub apply_policy_of : Asking → Judged ApplyPolicy
apply_policy_of asking = do
  succinct ← flag_of asking.form.pairs (codes "succinct") false
  policy ← needed asking.form.pairs (codes "policyId")
  Ok (record { place = place_of asking; policy = policy; succinct = succinct })

-- the reply is empty, so that no form of an object is asked for
abbrev pub remove_policy_of : Asking → Judged RemovePolicy
remove_policy_of asking = do
  policy ← needed asking.form.pairs (codes "policyId")
  Ok (record { place = place_of asking; policy = policy })
