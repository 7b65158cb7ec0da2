-- The arguments of parent, policies and acl, judged in their order (CMIS 1.1, section 5.4.2).
use Rattle.std.specs.Prelude.{false, Ok, codes}
use Rattle.cm_base.specs.Judged.{Judged, ◌>>=◌}
use Rattle.call_parts.specs.declared.readings.ReadAcl.{ReadAcl}
use Rattle.call_parts.specs.declared.readings.ReadParent.{ReadParent}
use Rattle.call_parts.specs.declared.readings.ReadPolicies.{ReadPolicies}
use Rattle.form_args.specs.Single.{flag_of}
use Rattle.bind_parts.specs.declared.asking.Asking.{Asking}
use Rattle.bind_parts.specs.Parts.{place_of}

-- a folder is shown with all its properties and nothing else
abbrev pub parent_of : Asking → Judged ReadParent
parent_of asking = do
  succinct ← flag_of asking.form.pairs (codes "succinct") false
  Ok (record { place = place_of asking; succinct = succinct })

-- policies are shown with all their properties and nothing else
abbrev pub policies_of : Asking → Judged ReadPolicies
policies_of asking = do
  succinct ← flag_of asking.form.pairs (codes "succinct") false
  Ok (record { place = place_of asking; succinct = succinct })

-- no object is shown, so nothing is asked but whose list it is
abbrev pub acl_of : Asking → Judged ReadAcl
acl_of asking = Ok (record { place = place_of asking })
